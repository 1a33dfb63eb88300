pub mod Words
pub mod Judging
pub mod Exactly
pub mod Printing
