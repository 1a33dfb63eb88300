-- Lemmas of the family Come, by file.
pub mod Frames
pub mod Turns
pub mod Pieces
pub mod Answers
pub mod Restarts
pub mod Stale
pub mod Bury
pub mod Moved
