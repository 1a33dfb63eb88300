-- Lemmas of the family Updates, by file.
pub mod Always
