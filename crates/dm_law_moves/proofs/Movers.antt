-- Lemmas of the family Movers, by file.
pub mod Says
pub mod Always
