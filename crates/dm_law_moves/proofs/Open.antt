-- Lemmas of the family Open, by file.
pub mod Moves
pub mod Fine
pub mod Servers
pub mod Apart
pub mod Stays
pub mod Worked
