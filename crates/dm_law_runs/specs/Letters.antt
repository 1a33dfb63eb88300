-- What a look into a run says of messages, by file.
pub mod Letters
pub mod Laws
