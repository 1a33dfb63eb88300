-- Lemmas of the family End, by file.
pub mod Servers
pub mod Processes
