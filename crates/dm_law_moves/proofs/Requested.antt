-- Lemmas of the family Requested, by file.
pub mod Deeds
pub mod Backs
pub mod Kept
pub mod Always
