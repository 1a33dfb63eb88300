-- Lemmas of the family Based, by file.
pub mod Needs
pub mod Rows
pub mod Groups
pub mod Constants
pub mod Loud
pub mod Sets
pub mod Queues
pub mod Unmoved
pub mod Noted
pub mod Start
pub mod Always
