-- What is at rest, on each pair and at the end, by file.
pub mod RestsPairs
pub mod RestsParts
pub mod RestsComes
pub mod RestsAlways
pub mod EndsQuiet
pub mod EndsAtRest
pub mod EndsResting
pub mod EndsRested
pub mod StillAlways
pub mod EndsStill
pub mod StaysAtRest
pub mod StaysWorked
