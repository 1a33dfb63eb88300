pub mod Letters
pub mod LetterText
pub mod Waiting
pub mod Ranks
pub mod Groups
pub mod Names
pub mod Looked
