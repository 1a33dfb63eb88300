-- What the proofs of this crate name of what lies below it.
pub use Rattle.dm_run.proofs.Carried.{Carries, carried_begun, carried_first, carried_run_wears, carried_whole}
pub use Rattle.dm_run.proofs.Names.{Ended, IsBegun, IsOfFirst, IsWhole, RunWears, by_world}
pub use Rattle.dm_run.proofs.Printing.{nothing_printed}
pub use Rattle.dm_front.proofs.Deciding.{Decides, Tells, run_decided}
pub use Rattle.dm_front.proofs.Kept.{Kept}
pub use Rattle.dm_front.proofs.Names.{All, Boot, Directive, Err, IsFor, IsValid, List, MeetsSink, Notion, Ok, Option, Result, Some, Status, Stop, World, WriteFault, ended_with, length, outside, refl, sink_around, subst, sym, ℕ, ◌≡◌}
pub use Rattle.dm_front.proofs.Ran.{ran_said}
pub use Rattle.dm_front.proofs.Running.{ended_sink, never_meets, run_met, run_taken, runs_lack, runs_meet}
pub use Rattle.dm_front.proofs.Saying.{silent_files}
pub use Rattle.dm_cmd_run.specs.Runs.{RunSays, run_promise}
