-- Lemmas of the family Order, by file.
pub mod Lines
pub mod Puts
pub mod Always
