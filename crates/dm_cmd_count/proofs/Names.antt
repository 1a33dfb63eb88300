-- What the proofs of this crate name of what lies below it.
pub use Rattle.dm_draw.proofs.Names.{IsDrawn, boot_of_machines, directive_drawn, own_drawn}
pub use Rattle.dm_draw.proofs.Valid.{boot_valid}
pub use Rattle.dm_draw.proofs.Within.{boot_machines, directive_fits, directives_fit, own_fits}
pub use Rattle.dm_draw.specs.declared.drill.Drill.{Drill}
pub use Rattle.dm_draw.specs.declared.drill.OwnDrill.{OwnDrill}
pub use Rattle.dm_world.proofs.Names.{All-head, All-tail}
pub use Rattle.dm_run.specs.Appended.{IsCutShort}
pub use Rattle.dm_drill.proofs.Carried.{carried_begun, carried_drill_wears, carried_first, carried_whole}
pub use Rattle.dm_drill.proofs.Going.{nothing_drilled}
pub use Rattle.dm_drill.proofs.Names.{Carries, DrillIsBegun, DrillIsOfFirst, DrillIsWhole, DrillWears, Ended, appended, by_world, schedule_text}
pub use Rattle.dm_drill.specs.declared.report.Report.{Report}
pub use Rattle.dm_words.proofs.Names.{IsWithin, Shows}
pub use Rattle.dm_front.proofs.Deciding.{Decides, Tells, ends, run_decided, said_same, wears_out}
pub use Rattle.dm_front.proofs.Kept.{Kept}
pub use Rattle.dm_front.proofs.Meeting.{all_read, lack_unread, no_write, passed_on, unread, unwritten}
pub use Rattle.dm_front.proofs.Names.{All, All-cons, All-nil, Alone, Around, BlamesSink, Bool, Boot, BootRefused, Directive, Done, Err, FirstOfBoot, Input, IsFor, IsValid, IsWant, Lasts, List, MeetsShelf, MeetsSink, NoBoot, NoMemory, None}
pub use Rattle.dm_front.proofs.Names.{Nothing, Notion, Ok, Option, Outside, ReadFault, Result, RoseOrFull, RunSaying, SaysBoot, SinkAround, Some, Status, Stop, TheNoMemory, Usage, Wears, World, [], ap, arith, ended_with, false, inl, inr}
pub use Rattle.dm_front.proofs.Names.{length, nat_le, nat_tests, outside, refl, sink_around, subst, sym, true, ℕ, ◌∷◌, ◌≡◌, ◌≤◌, ◌⊎◌}
pub use Rattle.dm_front.proofs.Ran.{ran_said, to_end}
pub use Rattle.dm_front.proofs.Running.{ended_sink, never_meets, run_met, run_taken, runs_lack, runs_meet}
pub use Rattle.dm_front.proofs.Saying.{silent_boot, silent_files}
pub use Rattle.dm_front.proofs.Systems.{one_lack, only_lack}
pub use Rattle.dm_cmd_count.specs.Drills.{CountSays, CountedSays, DrillMeets, DrilledSays, SaysDrill, count_promise, directives_of_drill, drill_promise, report_of}
pub use Rattle.dm_cmd_count.specs.OwnDrills.{OwnIsDecided, OwnMeets, OwnRunIsDecided, OwnSays, RunOwnSays, SaysOwn, ScheduleSays, ShownSays, directives_for, own_promise, own_report}
