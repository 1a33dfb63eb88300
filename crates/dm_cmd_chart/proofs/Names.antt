-- What the proofs of this crate name of what lies below it.
pub use Rattle.std.specs.Prelude.{OnErr}
pub use Rattle.dm_outside.specs.declared.Failed.{Failed}
pub use Rattle.dm_chart.specs.declared.kept.Part.{Part}
pub use Rattle.dm_run.proofs.Carried.{Carries, carried_before_worn, carried_picture}
pub use Rattle.dm_run.proofs.Names.{IsBeforeWorn, IsDrawn, OnOk, PictureIsWhole, appended, by_world}
pub use Rattle.dm_run.specs.Appended.{IsCutShort}
pub use Rattle.dm_run.specs.declared.drawing.Drawn.{Drawn}
pub use Rattle.dm_front.proofs.Deciding.{Decides, Tells, run_decided}
pub use Rattle.dm_front.proofs.Kept.{Kept}
pub use Rattle.dm_front.proofs.Names.{All, Boot, Directive, Done, Err, IsFor, IsValid, List, None, Notion, Ok, Option, Result, Status, World, Worn, inl, inr, length, outside, refl, sink_around, subst, sym, ℕ, ◌≡◌}
pub use Rattle.dm_front.proofs.Ran.{ran_said}
pub use Rattle.dm_front.proofs.Running.{never_meets, run_met, run_taken, runs_lack, runs_meet}
pub use Rattle.dm_front.proofs.Saying.{silent_files}
pub use Rattle.dm_front.specs.Outside.{around, shelf_around}
pub use Rattle.dm_front.specs.Written.{unless_failed}
pub use Rattle.dm_cmd_chart.specs.Charts.{BeginsPicture, ChartMeets, ChartSays, IsPicture, ShowsBegun, ShowsWhole, chart_promise, part_of}
