-- Lemmas of the family Real, by file.
pub mod Always
