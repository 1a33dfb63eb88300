-- Lemmas of the family Goes, by file.
pub mod Parts
pub mod Turns
pub mod Serves
pub mod Front
pub mod Process
pub mod Servers
pub mod Own
pub mod Always
pub mod Runs
