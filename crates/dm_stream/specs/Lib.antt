pub mod Sending
pub mod Receiving
pub mod Packets
pub mod Stream
pub mod Order
pub mod Rest
pub mod Returned
