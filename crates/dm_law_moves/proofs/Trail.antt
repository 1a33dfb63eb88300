-- Lemmas of the family Trail, by file.
pub mod Placed
pub mod Loose
pub mod Rows
pub mod Standing
pub mod Ranges
pub mod Known
