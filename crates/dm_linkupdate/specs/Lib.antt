pub mod Applied
pub mod Notice
