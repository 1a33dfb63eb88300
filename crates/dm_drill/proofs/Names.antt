-- What the proofs of this crate name of what lies below it.
pub use Rattle.std.proofs.Common.{set}
pub use Rattle.std.proofs.lemmas.Bool.{eq-eqb, ne_eqb}
pub use Rattle.std.specs.Prelude.{if◌then◌else◌}
pub use Rattle.dm_message.specs.Kinds.{number_of}
pub use Rattle.dm_message.specs.declared.kind.MessageKind.{MessageKind}
pub use Rattle.dm_text.proofs.Names.{take_more}
pub use Rattle.dm_world.proofs.Names.{append-nil, map, world_is_quiet}
pub use Rattle.dm_run.proofs.Carried.{Carried, Carries, carried_wears, carried_world}
pub use Rattle.dm_run.proofs.Going.{comes_first, comes_on, few_come, led_on, next_fits, running_come, wears_there}
pub use Rattle.dm_run.proofs.Keeping.{kept_boot, kept_going, kept_state, kept_world}
pub use Rattle.dm_run.proofs.Names.{All, All-nil, Bool, Boot, Directive, Does, Err, GoesOn, HasCome, HasEnded, IsErr, IsErrAnd, IsWorld, Line, LineFits, List, NoMemory, Notion, Offered, Ok, Option, Result, Some, Step, Stop, StopsSo, World}
pub use Rattle.dm_run.proofs.Names.{WorldState, Worn, WriteFault, [], ap, append_assoc, appended, arith, by_world, drop, false, false≢true, first_way, first_world, get_or, inl, inr, joined, length, refl, subst, suc, sym, take, true}
pub use Rattle.dm_run.proofs.Names.{world_state, zero, ℕ, ◌*◌, ◌++◌, ◌+◌, ◌-◌, ◌<◌, ◌^◌, ◌↔◌, ◌∙◌, ◌∷◌, ◌≡◌, ◌≤◌, ◌⊎◌}
pub use Rattle.dm_run.proofs.Writing.{some_left}
pub use Rattle.dm_run.specs.declared.way.Way.{Way}
pub use Rattle.dm_drill.specs.Counts.{counted_as, nothing, one_more, shown, with_group}
unfoldable pub use Rattle.dm_drill.specs.Counts.{with_group_lines, with_groups}
pub use Rattle.dm_drill.specs.Drilled.{Came, DrillIsBegun, DrillIsOfFirst, DrillIsWhole, DrillWears, Ended, IsCounted, IsThrough, Stopped, SumsUp, TellsQuiet, text_shown}
pub use Rattle.dm_drill.specs.Kinds.{AreNumbered, KindTotal, kind_line, kind_shown, one_more_of, with_put}
unfoldable pub use Rattle.dm_drill.specs.Kinds.{kind_lines}
pub use Rattle.dm_drill.specs.Reported.{told}
pub use Rattle.dm_drill.specs.Totals.{Totals}
pub use Rattle.dm_drill.specs.declared.counts.Counted.{Counted}
pub use Rattle.dm_drill.specs.declared.report.Report.{Report}
pub use Rattle.dm_drill.specs.Schedules.{directive_text}
unfoldable pub use Rattle.dm_drill.specs.Schedules.{schedule_text}
