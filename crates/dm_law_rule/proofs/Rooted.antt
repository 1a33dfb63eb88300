-- Lemmas of the family Rooted, by file.
pub mod Lines
pub mod Rows
pub mod Turns
pub mod Groups
