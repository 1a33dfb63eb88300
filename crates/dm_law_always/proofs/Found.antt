-- Lemmas of the family Found, by file.
pub mod Lists
pub mod Core
pub mod Labels
pub mod Parts
pub mod Forward
pub mod Real
pub mod Groups
pub mod Always
