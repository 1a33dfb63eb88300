-- Lemmas of the family Apart, by file.
pub mod Steps
pub mod Rows
pub mod Turns
pub mod Groups
