pub mod Names
pub mod Concat
pub mod Copies
pub mod Lengths
pub mod Ranges
pub mod Words
