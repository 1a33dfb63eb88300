-- What a look into a run says of messages, by file.
pub mod Often
pub mod Spots
pub mod Standing
pub mod Lettered
pub mod Order
pub mod Said
