-- Lemmas of the family At, by file.
pub mod RestPairs
pub mod RestOnly
pub mod RestQueues
pub mod RestAlways
pub mod Always
