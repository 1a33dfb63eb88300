-- What the proofs of this crate name of what lies below it.
pub use Rattle.std.specs.Prelude.{OnErr}
pub use Rattle.dm_outside.specs.declared.Failed.{Failed}
pub use Rattle.dm_world.proofs.Names.{Stop}
pub use Rattle.dm_run.proofs.Carried.{Carries}
pub use Rattle.dm_run.proofs.Names.{OnOk, appended, by_world}
pub use Rattle.dm_run.specs.Appended.{IsCutShort}
pub use Rattle.dm_look.proofs.Carried.{Sees, seen_by, wears_by}
pub use Rattle.dm_look.specs.Groups.{IsAt, WearsBefore}
pub use Rattle.dm_look.specs.Looked.{Holding, IsLooked, IsSeen, held_by_world}
pub use Rattle.dm_front.proofs.Deciding.{Decides}
pub use Rattle.dm_front.proofs.Kept.{Kept}
pub use Rattle.dm_front.proofs.Names.{All, BlamesSink, Bool, Boot, Directive, Done, Err, IsFor, IsValid, Line, List, None, Notion, Ok, Option, Outside, Result, SaysRun, Status, WearsAfter, World, inl, inr, length, outside, refl, subst, sym}
pub use Rattle.dm_front.proofs.Names.{ℕ, ◌<◌, ◌≡◌, ◌⊎◌}
pub use Rattle.dm_front.proofs.Outcomes.{only_want, same_inputs}
pub use Rattle.dm_front.proofs.Ran.{ran_said, to_end, to_worn}
pub use Rattle.dm_front.proofs.Running.{never_meets, run_met, run_taken, runs_lack, runs_meet}
pub use Rattle.dm_front.proofs.Saying.{silent_files}
pub use Rattle.dm_front.specs.Written.{unless_failed}
pub use Rattle.dm_cmd_look.specs.Looks.{BeginsSeen, LookIsDecided, LookSays, SeesWorn, ShowsSeen, look_promise}
