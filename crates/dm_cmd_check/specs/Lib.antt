pub mod Checks
pub mod LabelChecks
pub mod Judges
pub mod ByWorld
pub mod Promises
