-- Lemmas of the family Handle, by file.
pub mod Taking
pub mod Rows
pub mod Ended
pub mod Servers
pub mod Landings
pub mod Created
pub mod Kills
