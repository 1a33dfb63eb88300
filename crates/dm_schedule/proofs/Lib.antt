pub mod Names
pub mod Following
mod Worked
