-- Idle turns say nothing, by file.
pub mod Carried
pub mod Same
pub mod Turn
pub use Rattle.dm_law_runs.proofs.Choices.Idle.Turn.{idle_turns_say_nothing}
