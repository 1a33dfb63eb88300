-- How addresses follow a process, by file.
pub mod Changed
pub mod Followed
pub mod Updated
pub mod UpdatedCounts
