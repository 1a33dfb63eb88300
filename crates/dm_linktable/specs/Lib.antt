pub mod Slots
pub mod Index
