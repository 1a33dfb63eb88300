pub mod Ids
pub mod Plain
pub mod Kinds
pub mod Sorts
pub mod Outcomes
pub mod Lawful
pub mod Told
