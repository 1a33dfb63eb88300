pub mod Cuts
pub mod Digits
pub mod Gaps
pub mod Lines
pub mod Numbers
pub mod Words
