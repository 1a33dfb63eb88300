-- Lemmas of the family Own, by file.
pub mod Told
pub mod Groups
