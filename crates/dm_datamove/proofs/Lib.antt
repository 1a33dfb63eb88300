pub mod Names
pub mod Services
pub mod Landings
