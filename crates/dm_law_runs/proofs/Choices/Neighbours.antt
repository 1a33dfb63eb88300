-- Two directives that don't meet change places, by file.
pub mod Lists
pub mod Rows
pub mod Reaching
pub mod Numbers
pub mod Acting
pub mod Changing
pub mod Wires
pub mod Going
pub mod Places
pub mod Top
pub use Rattle.dm_law_runs.proofs.Choices.Neighbours.Top.{chosen_put, neighbours_change}
