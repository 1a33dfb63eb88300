-- What the proofs of this crate name of what lies below it.
pub use Rattle.dm_labels.proofs.Exactly.{good_is, line_is}
pub use Rattle.dm_labels.specs.Judged.{judged}
pub use Rattle.dm_labels.specs.declared.judge.Verdict.TheVariants.{Good}
pub use Rattle.dm_run.proofs.Names.{appended}
pub use Rattle.dm_check.proofs.Names.{ComesTo, Refused, RefusedBy, Verdict, good_verdict}
pub use Rattle.dm_check.specs.Faults.{number_of_trace_fault}
pub use Rattle.dm_check.specs.Good.{IsPrinted}
pub use Rattle.dm_check.specs.declared.fault.TraceFault.{TraceFault}
pub use Rattle.dm_check.specs.declared.refusal.WasDue.{WasDue}
pub use Rattle.dm_check.specs.declared.stop.CheckError.{CheckError}
pub use Rattle.dm_judge.specs.Refusals.{refusal_told}
pub use Rattle.dm_front.proofs.Kept.{Kept}
pub use Rattle.dm_front.proofs.Meeting.{all_read, both_read, lack_unread, passed_on, unwritten}
pub use Rattle.dm_front.proofs.Names.{AfterBoot, Around, BlamesSink, Bool, Boot, BootRefused, Both, Done, FirstOfBoot, Input, IsLonger, IsValid, IsWant, LabelsRefused, List, MeetsShelf, MeetsSink, NoBoot, NoMemory, None, NotFound, Option}
pub use Rattle.dm_front.proofs.Names.{Outside, ReadFault, RoseOrFull, ScheduleRefused, Some, Status, TheNoMemory, TooLong, TraceRefused, Undecided, Usage, World, Worn, WriteFault, ap, ap₂, cond, false, inl, inr, length, nat_lt, outside}
pub use Rattle.dm_front.proofs.Names.{refl, subst, sym, true, ℕ, ◌++◌, ◌∙◌, ◌≡◌, ◌⊎◌}
pub use Rattle.dm_front.proofs.Outcomes.{Files, above, boot_part, long_boot, not_above, refused_boot, said_boot, same_boot, some_one, want_or_not}
pub use Rattle.dm_front.proofs.Saying.{silent_boot}
pub use Rattle.dm_front.proofs.Telling.{system_says}
pub use Rattle.dm_front.specs.Outside.{shelf_around}
pub use Rattle.dm_front.specs.Told.{IsUntold, Wrote}
pub use Rattle.dm_cmd_check.specs.ByWorld.{traced_by_world}
pub use Rattle.dm_cmd_check.specs.Checks.{CheckMeets, CheckSaying, CheckSays, HasTrace, IsGoodTrace, NoBytes, NoTrace, RefusesTrace, SaysCheck, TraceMeans, good_line, most_trace}
pub use Rattle.dm_cmd_check.specs.Judges.{JudgeMeets, JudgeTells, NoneJudged, TellsJudged, TellsTrace}
pub use Rattle.dm_cmd_check.specs.LabelChecks.{HasLabels, LabelsMeet, LabelsSay, NoLabelBytes, NoLabels, SaysLabels, good_labels_line, most_labels}
pub use Rattle.dm_cmd_check.specs.Promises.{CheckIsDecided, GivesGood, GivesLabels, GivesRefused, LabelsAreDecided, check_promise, judge_promise, labels_promise}
