pub mod Names
pub mod CommandWords
pub mod Shapes
pub mod Given
pub mod Ranges
pub mod Usages
pub mod Places
