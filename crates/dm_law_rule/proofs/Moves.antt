-- Lemmas of the family Moves, by file.
pub mod Lists
pub mod States
pub mod Sent
pub mod Called
pub mod Rows
