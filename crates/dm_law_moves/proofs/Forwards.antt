-- Lemmas of the family Forwards, by file.
pub mod Told
pub mod Links
