-- Lemmas of the family Sizes, by file.
pub mod Counts
pub mod Lists
pub mod Lines
pub mod Servers
pub mod Kept
pub mod Walks
pub mod Heard
pub mod Groups
pub mod Always
