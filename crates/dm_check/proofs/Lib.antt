pub mod Names
pub mod Judging
pub mod Heads
pub mod Dues
pub mod Straying
pub mod Checks
pub mod Following
pub mod Ending
