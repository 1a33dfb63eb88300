-- Lemmas of the family Lists, by file.
pub mod Always
