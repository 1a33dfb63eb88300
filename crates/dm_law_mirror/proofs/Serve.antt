-- Lemmas of the family Serve, by file.
pub mod Runs
pub mod Stops
pub mod Executes
pub mod Receives
