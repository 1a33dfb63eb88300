-- What the proofs of this crate name of what lies below it.
pub use Rattle.std.proofs.Common.{append_assoc, codes, get_or, length-append, take, ◌*◌, ◌/◌}
pub use Rattle.std.proofs.lemmas.List.{length-take}
pub use Rattle.std.proofs.lemmas.List.Elements.{All-append, All-cons}
pub use Rattle.std.specs.Str.{bytes_eq}
pub use Rattle.dm_link.specs.Names.{pid_eq, pid_of}
pub use Rattle.dm_link.specs.Plain.{PlainLink}
pub use Rattle.dm_records.proofs.Names.{Bool, Option, Pid, Some, ap, arith, false, if◌then◌else◌, refl, sym, true, ◌∙◌, ◌≡◌}
pub use Rattle.dm_processor.proofs.Names.{List, [], drop, length, nat_tests, suc, zero, ℕ, ◌++◌, ◌+◌, ◌-◌, ◌<◌, ◌∷◌, ◌≤◌}
pub use Rattle.dm_room.proofs.Names.{slice_get}
pub use Rattle.dm_wire.proofs.Names.{inl, inr}
pub use Rattle.dm_stream.proofs.Names.{cases_Bool, is_some, nat_lt, subst, ◌≢◌, ◌⊎◌}
unfoldable pub use Rattle.dm_stream.specs.Packets.{load_at}
pub use Rattle.dm_message.specs.Plain.{PlainMessage, PlainWhat}
pub use Rattle.dm_message.specs.declared.Outcome.{Outcome}
pub use Rattle.dm_linktable.proofs.Names.{map, ◌&&◌, ◌==◌}
pub use Rattle.dm_packet.proofs.Names.{All, Message, MessageKind, MsgId, append-nil, nat_le, not, spelling}
pub use Rattle.dm_linkupdate.proofs.Names.{None}
pub use Rattle.dm_onekernel.specs.Boot.{first_number, is_general, manager, switchboard}
pub use Rattle.dm_onekernel.specs.Kernel.{Alive, Life, MoveNote, NamedLink, OneKernel, Pending, Switchboard, with_sent}
pub use Rattle.dm_onekernel.specs.Options.{bind, when}
pub use Rattle.dm_onekernel.specs.PlainProcess.{PlainProcess}
pub use Rattle.dm_onekernel.specs.Start.{start}
pub use Rattle.dm_onekernel.specs.Switchboard.{is_name}
pub use Rattle.dm_onekernel.specs.declared.label.Label.{Label}
pub use Rattle.dm_onekernel.specs.declared.label.Reply.{Reply}
pub use Rattle.dm_onekernel.specs.declared.label.Why.{Why}
pub use Rattle.dm_procman.proofs.Names.{Boot, IsValid}
pub use Rattle.dm_law_one.proofs.Names.{false≢true, option_map, replay, ⊤}
pub use Rattle.dm_datamove.proofs.Names.{All-nil}
pub use Rattle.dm_line.specs.Each.{joined_below}
pub use Rattle.dm_line.specs.Ends.{before_zeros, block_line, home_with, list_line, memory_lines, trimmed}
pub use Rattle.dm_law_rule.proofs.Names.{AreStill, Directive, IsStep, IsStill, Leads, Line, Load, Next, Pair, Part, Point, Says, SentLoad, Spelled, Step, Todo, Transmits, View, after, after_head, after_line, after_packet, after_put}
pub use Rattle.dm_law_rule.proofs.Names.{all_of, at_least, at_pair, bind-is, filter, first_point, gone_after, group_of, has_mail, is_quiet, marked, marked_at, moved, next_step, oldest, pair_window, routed_on, spelled, view_after, with_pair}
pub use Rattle.dm_law_rule.specs.Worn.{IsWorn}
pub use Rattle.dm_law_places.proofs.Names.{Placed}
pub use Rattle.dm_kernel.proofs.Names.{All-head, All-tail}
pub use Rattle.dm_law_always.proofs.Decided.{shorter_begins}
pub use Rattle.dm_law_always.proofs.Names.{IsNetLine, IsRun, LeadsBy, group_is, is_put, labels}
pub use Rattle.dm_law_always.proofs.RunsAlways.{goes_on_always, receives_in_order}
pub use Rattle.dm_law_moves.proofs.Names.{act_of, count, group_replay, labels-append, line_view, onward, or, pair_same, replay-append, run_always, said, taken_pair}
pub use Rattle.dm_law_moves.proofs.Settles.Falls.LeftFalls.{left_falls}
pub use Rattle.dm_law_moves.proofs.Settles.Falls.Less.{Falls, by_left}
pub use Rattle.dm_law_moves.proofs.Settles.FewSteps.FewPuts.{few_puts}
pub use Rattle.dm_law_moves.proofs.Settles.Grows.{one_longer}
pub use Rattle.dm_law_moves.proofs.Names.{IsKept, IsLess, IsSettleStep, Left, Pass, Settle, SettlesBy, Two, begin_pass, below, first_undelivered, here_or_later, in_pass, left}
pub use Rattle.dm_law_moves.proofs.Ends.Parts.{count-append}
pub use Rattle.dm_law_moves.proofs.After.{group_after}
pub use Rattle.dm_line.specs.Todo.{is_over}
pub use Rattle.dm_line.specs.declared.end_line.EndLine.{EndLine}
pub use Rattle.dm_law_rule.specs.Ends.{Stood, end_lines}
pub use Rattle.dm_law_rule.specs.Holders.{Addresses}
pub use Rattle.dm_law_rule.specs.Parts.{behind}
pub use Rattle.dm_law_rule.specs.Rule.{outcome}
pub use Rattle.dm_law_rule.specs.Spots.{untaken}
pub use Rattle.dm_law_moves.proofs.Promise.Finds.{leads_append}
pub use Rattle.dm_law_moves.proofs.Names.{next_and_left, next_delivery, next_directive, next_pass, next_turn, pairs_of, pass_begun, passes_quiet, quiet_passes, says_put, says_view, settles, stands_once_always, takes_turn, transmits_view}
pub use Rattle.dm_law_moves.proofs.Names.{undelivered}
pub use Rattle.dm_law_moves.proofs.Settles.PassHas.{settles_always}
pub use Rattle.dm_law_moves.proofs.Settles.Rests.EndsQuiet.{or_is, pass_stays, settles_is, unless_is}
pub use Rattle.dm_text.proofs.LineBack.{line_words-are}
pub use Rattle.dm_text.proofs.LinesBack.{line_bytes, pieces_of_line, spelled_bytes}
pub use Rattle.dm_text.specs.Fits.{EndFits, LineFits}
unfoldable pub use Rattle.dm_text.specs.Reading.{pieces}
pub use Rattle.dm_text.specs.Text.{end_text, text}
unfoldable pub use Rattle.dm_text.specs.Text.{text_of_ends, text_of_lines}
pub use Rattle.dm_text.specs.Written.{line_words}
pub use Rattle.dm_shape.proofs.NamesRead.{some_piece}
pub use Rattle.dm_shape.proofs.ShapeLaws.{heads_read}
pub use Rattle.dm_shape.specs.Full.{IsFull}
unfoldable pub use Rattle.dm_shape.specs.Heads.{head_step}
pub use Rattle.dm_shape.specs.Shapes.{has_shape}
pub use Rattle.dm_world.proofs.Names.{Round, WorldState, bytes_at, is_pair}
pub use Rattle.dm_world.specs.Ends.{end_lines as ends_of}
pub use Rattle.dm_world.specs.World.{Said, WornOut}
pub use Rattle.dm_law_mirror.proofs.Deliver.Events.{mark_next}
pub use Rattle.dm_law_mirror.proofs.Deliver.Outs.{bytes_marked}
pub use Rattle.dm_law_mirror.proofs.Given.{end_is_said, ran_goes_on}
pub use Rattle.dm_law_mirror.proofs.Going.{leads_last}
pub use Rattle.dm_law_mirror.proofs.Local.{acts_locally}
pub use Rattle.dm_law_mirror.proofs.Machines.{machines_group, plainly_is, some_machine}
pub use Rattle.dm_law_mirror.proofs.Names.{AreMessages, GoesOn, History, IsDirective, IsTodo, IsTwo, PairStands, PutsFrom, Stands, StandsWith, bytes_of, following, full_route, is_full, joined, line_of, load_of, marked_by, message_id}
pub use Rattle.dm_law_mirror.proofs.Names.{packet_of_load, received_once, worn_in}
pub use Rattle.dm_law_mirror.proofs.Next.{IsBelow, all_below, all_pairs, next_fits}
pub use Rattle.dm_law_mirror.proofs.Routing.{worn_alike}
pub use Rattle.dm_law_mirror.proofs.Single.{ran_begins}
pub use Rattle.dm_law_mirror.proofs.Staying.{kernel_stays}
pub use Rattle.dm_law_mirror.specs.Ran.{Ran, RanGoes, ones}
pub use Rattle.dm_law_mirror.specs.Run.{IsGood}
pub use Rattle.dm_law_runs.specs.Order.{GoodInOrder, MoveNothing}
pub use Rattle.dm_law_runs.specs.Packets.{GoesTo, HasNumber, PacketsAgree, PacketsSpell, Spells, number_in, number_of}
pub use Rattle.dm_law_runs.specs.Settling.{SettleFew, SettlesFromStart, puts_in, settle_begun}
pub use Rattle.dm_law_runs.specs.Through.{AllBegin, HasEnded, Over, RunsThrough, Wears}
pub use Rattle.dm_run.specs.Went.{Does, WearsBy, Went, begins, goes}
pub use Rattle.dm_check.specs.Checking.{first_line, head_of_line, is_final}
pub use Rattle.dm_check.specs.Good.{AllHeld, EndsFit, IsPrinted, good_verdict, text_behind}
pub use Rattle.dm_check.specs.Judge.{Course, Due, End, Ended, Head, InGroup, Judgement, Open, Refused, Verdict, at_end, at_first_line, at_head, at_line, begins_group, behind_line, can_hold, falls_as_step, if_stands, is_line_text, judged}
pub use Rattle.dm_check.specs.Judge.{judged_from, taken, text_ended, told, told_count, told_label}
unfoldable pub use Rattle.dm_check.specs.Judge.{verdict_by}
pub use Rattle.dm_check.specs.Says.{ComesTo, SaysAs}
pub use Rattle.dm_check.specs.declared.fault.TraceFault.{TraceFault}
pub use Rattle.dm_check.specs.declared.fault.TraceFault.TheVariants.{NotALine, NotAStep, NotDue, NotTheEnd}
pub use Rattle.dm_law_runs.specs.Traces.First.{AreSame, IsNoLine, RefusalsAreFirst}
pub use Rattle.dm_law_runs.specs.Traces.Good.{IsTrace}
pub use Rattle.dm_law_runs.specs.Traces.Laws.{BeginningsAreOpen, HasHome, IsHome, RunsAreEnded, TracesAreGood}
pub use Rattle.dm_law_runs.specs.Traces.Verdict.{by_rule, led, rule_ends, rule_group, unless_worn}
unfoldable pub use Rattle.dm_law_runs.specs.Traces.Verdict.{verdict}
