-- Lemmas of the family Asked, by file.
pub mod Following
pub mod Always
pub mod Said
pub mod Causes
