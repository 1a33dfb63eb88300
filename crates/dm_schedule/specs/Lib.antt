pub mod Keywords
pub mod Numbers
pub mod Operands
pub mod Schedule
