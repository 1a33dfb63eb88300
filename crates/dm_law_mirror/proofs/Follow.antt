-- Lemmas of the family Follow, by file.
pub mod Fronts
pub mod Forwards
pub mod Updates
pub mod Asks
