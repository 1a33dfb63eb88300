-- Lemmas of the family Ends, by file.
pub mod Parts
pub mod Open
pub mod Hears
pub mod Groups
pub mod Sources
pub mod Always
