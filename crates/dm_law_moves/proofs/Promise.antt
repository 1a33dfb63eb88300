-- Lemmas of the family Promise, by file.
pub mod Slots
pub mod Spots
pub mod Finds
pub mod Always
