-- Lemmas of the family Row, by file.
pub mod Lines
pub mod Tokens
