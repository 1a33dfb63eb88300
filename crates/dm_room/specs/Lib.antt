pub mod Room
pub mod Held
