-- Lemmas of the family Routed, by file.
pub mod Always
