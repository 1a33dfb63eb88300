-- What the proofs of this crate name of what lies below it.
pub use Rattle.dm_wire.proofs.Names.{take-append-le}
pub use Rattle.dm_draw.proofs.Drawing.{drawn_next, drawn_none}
pub use Rattle.dm_draw.proofs.Names.{Drawn, arrival_drawn, behind_process, calloff_drawn, deliver_drawn, directives_by, drawn, migrate_drawn, move_drawn, process_drawn, round_drawn, state_behind, stepped, tick_drawn, turn_drawn}
pub use Rattle.dm_draw.proofs.Within.{directives_count, drawn_below}
unfoldable pub use Rattle.dm_draw.specs.Directives.{directive_drawn}
unfoldable pub use Rattle.dm_draw.specs.Own.{own_drawn}
pub use Rattle.dm_statebytes.specs.Servers.{Counts, by_rules, only_read, server_front}
pub use Rattle.dm_onekernel.proofs.Lawful.{few_machines}
pub use Rattle.dm_switchboard.specs.Packed.{board, name_behind, named_behind, names, names_behind, read_names}
unfoldable pub use Rattle.dm_switchboard.specs.Packed.{board_of_bytes}
pub use Rattle.dm_procman.specs.Packed.{manager_of_bytes}
pub use Rattle.dm_resident.specs.Residents.{moved as moved_on}
pub use Rattle.dm_migrate.proofs.Names.{is_process_coming, moved_board, moved_manager, server_of_bytes}
pub use Rattle.dm_kernel.proofs.Names.{IsLawfulResident, queue_of}
pub use Rattle.dm_law_moves.proofs.Open.Moves.{leads_of}
pub use Rattle.dm_law_moves.proofs.Settles.Rests.EndsRested.{ends_rested_so}
pub use Rattle.dm_law_moves.proofs.Settles.Rests.EndsStill.{ends_still}
unfoldable pub use Rattle.dm_text.specs.Text.{text_of_ends}
pub use Rattle.dm_chart.proofs.Names.{concat}
pub use Rattle.dm_labels.proofs.Printing.{printed_are_good}
pub use Rattle.dm_labels.specs.Printed.{label_lines, text_of_labels}
pub use Rattle.dm_world.proofs.Names.{Rest, world_seen}
pub use Rattle.dm_law_mirror.proofs.Leading.{good_leads}
pub use Rattle.dm_law_mirror.proofs.Names.{Board, BootProcess, Managing, Named, Resident, Seen, at_rest, processes_are_valid, room_from, starting_at}
pub use Rattle.dm_law_mirror.proofs.Numbering.{listed, starting-last}
pub use Rattle.dm_run.proofs.Names.{length-append}
pub use Rattle.dm_run.proofs.Writing.{appended_twice}
pub use Rattle.dm_look.specs.Letters.{Letter}
pub use Rattle.dm_check.proofs.Names.{rules}
pub use Rattle.dm_drill.proofs.Back.{schedules_are_read}
pub use Rattle.dm_drill.proofs.Names.{text_shown, ◌^◌}
pub use Rattle.dm_drill.specs.Counts.{totals_of}
pub use Rattle.dm_drill.specs.Schedules.{CanStand}
pub use Rattle.dm_drill.specs.Summary.{summary}
pub use Rattle.dm_law_runs.proofs.Choices.ByRule.Answered.{answered}
pub use Rattle.dm_law_runs.proofs.Letters.Said.{letters_are_said}
pub use Rattle.dm_law_runs.proofs.Names.{All, All-append, All-cons, All-head, All-nil, All-tail, Directive, EndFits, EndLine, HasHome, IsDirective, IsGood, IsHome, IsStep, Label, Line, LineFits, MsgId, OneKernel, Open, Pid, Point, Step}
pub use Rattle.dm_law_runs.proofs.Names.{Todo, Why, [], append-nil, append_assoc, arith, can_hold, drop, end_lines, first_point, following, get_or, if◌then◌else◌, joined, labels, map, nat_le, nat_tests, next_directive, next_pass, not, ones}
pub use Rattle.dm_law_runs.proofs.Names.{option_map, or, pid_eq, replay, slice_get, stands_once_always, start, suc, switchboard, take, text_of_lines, verdict, zero, ⊤, ◌&&◌, ◌*◌, ◌+◌, ◌<◌, ◌==◌, ◌∷◌, ◌≢◌, ◌≤◌}
pub use Rattle.dm_law_runs.proofs.Traces.Full.{group_over}
pub use Rattle.dm_law_runs.proofs.Traces.Going.{both_first, both_second, differ, held_fits, is_below}
pub use Rattle.dm_law_runs.proofs.Traces.Printed.{due_is, trace_is, verdict_is}
pub use Rattle.dm_law_runs.proofs.Traces.Runs.{beginnings_open, runs_ended}
pub use Rattle.dm_law_runs.specs.Letters.Letters.{HoldsLetters}
pub use Rattle.dm_words.proofs.Names.{Chart, Check, CheckLabels, Count, Explain, Explore, IsTaken, Judge, Look, OwnDrill, OwnIsWithin, Request, Run, request_of, string_bytes}
pub use Rattle.dm_words.proofs.Ranges.{Fits, asked_fits}
pub use Rattle.dm_words.specs.Refused.{status_of_no}
pub use Rattle.dm_words.specs.Words.{request_said}
pub use Rattle.dm_words.specs.declared.words.WordsError.{WordsError}
pub use Rattle.dm_front.proofs.Meeting.{no_read}
pub use Rattle.dm_front.proofs.Names.{Accepted, AcceptsFiles, MeetsOutside, SaysDirectives, Untouched, directives_of, most_schedule}
pub use Rattle.dm_front.specs.Outside.{NeverFails}
pub use Rattle.dm_front.specs.Promise.{RefusesWords}
pub use Rattle.dm_cmd_run.proofs.Names.{IsWhole, RunWears}
pub use Rattle.dm_cmd_run.proofs.RunKept.{run_kept}
pub use Rattle.dm_cmd_count.proofs.CountKept.{count_kept}
pub use Rattle.dm_cmd_count.proofs.DrillKept.{drill_kept}
pub use Rattle.dm_cmd_count.proofs.Drills.{all_for}
pub use Rattle.dm_cmd_count.proofs.Names.{Decides, Drill, DrillIsWhole, DrillWears, IsDrawn, IsWithin, Nothing, OwnSays, ShownSays, Shows, boot_machines, boot_of_machines, boot_valid, by_world, directives_for, directives_of_drill, no_write}
pub use Rattle.dm_cmd_count.proofs.Names.{own_fits, own_report, report_of, schedule_text, unread}
pub use Rattle.dm_cmd_count.proofs.OwnDrilling.{own_for, some_machines}
pub use Rattle.dm_cmd_count.proofs.OwnKept.{own_kept}
pub use Rattle.dm_cmd_chart.proofs.ChartKept.{chart_kept}
pub use Rattle.dm_cmd_chart.proofs.Names.{around}
pub use Rattle.dm_cmd_look.proofs.LookKept.{NoneBefore, look_kept}
pub use Rattle.dm_cmd_look.proofs.Names.{IsAt, Sees, WearsBefore, held_by_world}
pub use Rattle.dm_cmd_check.proofs.CheckDecided.{DecidesTraces}
pub use Rattle.dm_cmd_check.proofs.CheckKept.{CarriesTraces, check_kept}
pub use Rattle.dm_cmd_check.proofs.JudgeKept.{judge_kept}
pub use Rattle.dm_cmd_check.proofs.LabelsKept.{labels_kept}
pub use Rattle.dm_cmd_check.proofs.Names.{Around, Bool, Boot, Done, Files, GivesGood, GivesLabels, Good, HasLabels, HasTrace, Input, IsValid, IsWant, Kept, LabelsAreDecided, List, NoMemory, None, Option, Outside, ReadFault, RoseOrFull}
pub use Rattle.dm_cmd_check.proofs.Names.{Some, Status, TheNoMemory, Usage, World, Worn, WriteFault, ap, appended, false, good_verdict, inl, inr, length, nat_lt, refl, shelf_around, subst, sym, traced_by_world, true, unwritten, ℕ, ◌++◌}
pub use Rattle.dm_cmd_check.proofs.Names.{◌∙◌, ◌≡◌, ◌⊎◌}
pub use Rattle.dm_cmd_check.specs.Promises.{Accepts}
pub use Rattle.dm_cmd_explore.proofs.ExploreKept.{DecidesAnswers, explore_kept}
pub use Rattle.dm_cmd_explore.proofs.Exploring.{asked_for}
pub use Rattle.dm_cmd_explore.proofs.Names.{Answer, Answers, Exploration, ExploreIsWithin, IsCutShort, SaysBoot, answered_by_world, are_for, bounds_for, question_for, sink_around}
pub use Rattle.dm_cmd_explain.proofs.ExplainKept.{explain_kept}
pub use Rattle.dm_program.specs.Commands.{of_world, promise_of, promised}
pub use Rattle.dm_program.specs.Labels.{KeepsLabels, RunLabelsCheck, SaysLabelsAre}
pub use Rattle.dm_program.specs.Laws.{DrillsCheck, DrillsMayStart, IsGoodDrill, IsGoodWornDrill, IsKept, RunsCheck, SaysItIs, TracesAreFor, WornRunsCheck}
pub use Rattle.dm_program.specs.OwnLaws.{OwnDrillsAreFor, OwnDrillsCheck, SchedulesAreTaken}
pub use Rattle.dm_program.specs.Printed.{WearsAfter, by_rule}
pub use Rattle.dm_program.specs.Program.{HasNoWords, ProgramMeets}
pub use Rattle.dm_program.specs.Rule.{answered_by_rule, held_by_rule, of_rule, traced_by_rule}
pub use Rattle.dm_program.specs.Theorem.{IsSound, PrintsSoundly, RunsAreSound}
