pub mod Loops
pub mod Joins
pub mod Right
pub mod Places
