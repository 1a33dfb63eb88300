-- Lemmas of the family Pending, by file.
pub mod Pairs
pub mod Always
