-- Lemmas of the family Predecessors, by file.
pub mod Kept
pub mod Lines
pub mod Rows
pub mod Turns
pub mod Hears
pub mod Groups
pub mod Always
pub mod Forgotten
