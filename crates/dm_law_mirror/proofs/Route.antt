-- Lemmas of the family Route, by file.
pub mod Puts
pub mod Parts
pub mod List
