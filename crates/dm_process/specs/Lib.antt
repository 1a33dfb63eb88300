pub mod Begun
pub mod Directions
pub mod Lawful
pub mod Mail
pub mod Passed
pub mod Process
pub mod Service
