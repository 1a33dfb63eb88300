pub mod Board
pub mod Following
pub mod Operations
pub mod Taking
pub mod Deciding
pub mod Plainly
pub mod Lawful
pub mod Packed
