pub mod Names
pub mod Writing
pub mod Counted
pub mod Going
pub mod Keeping
pub mod Printing
pub mod Pictures
pub mod Carried
