-- Lemmas of the family Stales, by file.
pub mod Weighs
pub mod Pieces
pub mod Rows
pub mod Hears
pub mod Groups
pub mod Always
pub mod Worked
