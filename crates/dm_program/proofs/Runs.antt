pub mod Names
pub mod Fits
pub mod Begun
mod Restarted
pub mod Finals
pub mod Settling
pub mod Stands
pub mod Decisions
pub mod Endings
pub mod Law
pub mod ByRule
pub mod Looks
