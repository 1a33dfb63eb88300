-- Lemmas of the family Stages, by file.
pub mod Spares
pub mod Waits
pub mod Rows
pub mod Steps
pub mod Always
