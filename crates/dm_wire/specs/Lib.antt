pub mod Bytes
pub mod Sent
pub mod Wire
