pub mod Names
pub mod Cursor
pub mod Bytes
pub mod Pending
