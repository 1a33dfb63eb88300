-- What the proofs of this crate name of what lies below it.
pub use Rattle.std.proofs.Common.{ap₂, vec_len}
pub use Rattle.std.proofs.lemmas.List.{drop-drop}
pub use Rattle.std.specs.Prelude.{IfErr}
pub use Rattle.dm_memory.specs.declared.NoMemory.{NoMemory as TheNoMemory}
unfoldable pub use Rattle.dm_reading.specs.Lines.{lines}
pub use Rattle.dm_outside.specs.Outside.{ReadsFile, ReadsTold, RoseOrFull}
pub use Rattle.dm_schedule.proofs.Names.{Accepted, Refused, Schedule, also, ends_line, is_return, keyword_of, length-drop, length-take-le, line_ends, number_of_fault, number_of_word, onto_first, process_of, words}
pub use Rattle.dm_schedule.specs.Keywords.{Machine, Operand, Packet, Process, Rounds, operands}
pub use Rattle.dm_schedule.specs.Operands.{Value, Values, value_of, values_of, within, ◌>>=◌}
pub use Rattle.dm_schedule.specs.Schedule.{begins_comment, directive_made, line_and_rest}
unfoldable pub use Rattle.dm_schedule.specs.Schedule.{directive_of, directives_of, line_directive, lines_from}
pub use Rattle.dm_schedule.specs.declared.LineFault.{LineFault}
pub use Rattle.dm_schedule.specs.declared.LineFault.TheVariants.{SameMachine, WrongCount}
pub use Rattle.dm_schedule.specs.declared.keywords.Keyword.{Keyword}
pub use Rattle.dm_schedule.specs.declared.keywords.Keyword.TheVariants.{CallOff, Deliver, Migrate, Rest, Round, Settle, Spin, Tick, Turn}
pub use Rattle.dm_boot.proofs.Imports.{boot_of, nat_le, nat_lt}
pub use Rattle.dm_boot.specs.Rules.{rule_number}
pub use Rattle.dm_boot.specs.declared.rules.BootRule.{BootRule}
pub use Rattle.dm_explain.specs.Explained.{ExplainsBoot, ExplainsSchedule, TellsRefused}
pub use Rattle.dm_explain.specs.Schedules.{line_told}
pub use Rattle.dm_explain.specs.declared.explain.BootTold.{BootTold}
pub use Rattle.dm_explain.specs.declared.explain.ScheduleTold.{ScheduleTold}
pub use Rattle.dm_world.proofs.Names.{cond, if◌then◌else◌, length-append, nat_tests, ⊤, ◌&&◌, ◌==◌}
pub use Rattle.dm_ending.specs.Ended.{ended_with}
pub use Rattle.dm_ending.specs.Status.{BlamesShelf, BlamesSink, IsWant}
pub use Rattle.dm_ending.specs.declared.status.Input.{Input}
pub use Rattle.dm_ending.specs.declared.status.Status.{Status}
pub use Rattle.dm_ending.specs.declared.status.Status.TheVariants.{BootRefused, Done, LabelsRefused, NoMemory, NotFound, ReadFault, ScheduleRefused, TooLong, TraceRefused, Undecided, Usage, Worn, WriteFault}
pub use Rattle.dm_run.proofs.Names.{All, All-cons, All-nil, Blames, Bool, Boot, Directive, Err, Global, IsErr, IsErrAnd, IsFor, IsValid, Line, List, None, Notion, Ok, Option, Pid, Result, Some, Step, Stop, Vec, WearsAfter, World, [], ap}
pub use Rattle.dm_run.proofs.Names.{append_assoc, arith, drop, false, false≢true, inl, inr, length, refl, subst, suc, sym, take, take-append-drop, true, ℕ, ◌++◌, ◌+◌, ◌-◌, ◌<◌, ◌∙◌, ◌∷◌, ◌≡◌, ◌≢◌, ◌≤◌, ◌⊎◌}
pub use Rattle.dm_run.specs.Coming.{StopsThere}
pub use Rattle.dm_front.specs.Asked.{Alone, Asks, AsksBoth, Both, Named, Nothing, perhaps_both}
pub use Rattle.dm_front.specs.Decided.{Lasts, RunIsDecided, Wears}
pub use Rattle.dm_front.specs.Files.{IsLonger, SoFar, StartsSo}
pub use Rattle.dm_front.specs.Firsts.{FirstOfBoot, FirstOfFiles, FirstOfSchedule, boot_text, first_line, schedule_text}
pub use Rattle.dm_front.specs.Inputs.{AcceptsFiles, AfterBoot, HasFile, NoBoot, NoDirectives, NoFiles, RefusesBoot, RefusesSchedule, SaysBoot, SaysDirectives, most_boot, most_schedule}
pub use Rattle.dm_front.specs.Meets.{MeetsOutside, MeetsShelf, MeetsSink, status_so_far}
pub use Rattle.dm_front.specs.Outside.{Around, Outside, ShelfAround, SinkAround, Untouched, outside, sink_around}
pub use Rattle.dm_front.specs.Promise.{Promise}
pub use Rattle.dm_front.specs.Runs.{RanSays, RunMeets, RunSaying, SaysRun}
pub use Rattle.dm_front.specs.Told.{ExplainsSystem, TellsRead}
