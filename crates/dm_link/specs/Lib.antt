pub mod Names
pub mod Places
pub mod Plain
pub mod Lawful
