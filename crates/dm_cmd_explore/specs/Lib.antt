pub mod Explores
pub mod ByWorld
