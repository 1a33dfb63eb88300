pub mod Residents
pub mod Packed
pub mod Lawful
pub mod Lent
