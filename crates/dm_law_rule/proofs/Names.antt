-- What the proofs of this crate name of what lies below it.
pub use Rattle.std.proofs.Common.{lit<}
pub use Rattle.std.proofs.lemmas.Bool.{and_parts, cases_eq, eq-eqb, eqb-true, false_from_ne_true, lt-ltb, ne_eqb, not-true, or_cases, or_left, or_right}
pub use Rattle.std.proofs.lemmas.List.{length-append}
pub use Rattle.std.proofs.lemmas.Option.{slice_get_cases, slice_get_within}
pub use Rattle.std.specs.List.{cons_option, position_from, range_with_len}
pub use Rattle.std.specs.Prelude.{filter, filter_map, option_and_then, slice_set}
pub use Rattle.std.specs.Str.{bytes_eq}
pub use Rattle.dm_link.specs.Names.{Place, place_of}
pub use Rattle.dm_link.specs.declared.Kind.TheVariants.{General}
pub use Rattle.dm_processor.proofs.Names.{drop-append-le, opcode_of, past, replicate, slice_index, ◌/◌}
unfoldable pub use Rattle.dm_processor.specs.Instructions.{instruction}
pub use Rattle.dm_processor.specs.declared.opcodes.Opcode.{Opcode}
pub use Rattle.dm_processor.specs.declared.registers.Fault.{Fault}
pub use Rattle.dm_processor.specs.declared.registers.Regs.{Regs}
pub use Rattle.dm_message.specs.Kinds.{plain_kind}
pub use Rattle.dm_message.specs.Sorts.{Sort, brings_piece, pulls_piece, sort_of}
pub use Rattle.dm_message.specs.declared.kind.MessageKind.{MessageKind}
pub use Rattle.dm_linktable.proofs.Names.{Link, cond, is_none, ◌%◌}
pub use Rattle.dm_schedule.proofs.Names.{append-nil, append_assoc, drop-length, not, position_or_len}
pub use Rattle.dm_schedule.specs.declared.Directive.{Directive}
pub use Rattle.dm_schedule.specs.declared.Step.{Step}
pub use Rattle.dm_process.specs.Mail.{on_mask}
pub use Rattle.dm_onekernel.specs.Boot.{is_general, slots_of}
pub use Rattle.dm_onekernel.specs.Codes.{reply_code, reply_eq, why_eq}
pub use Rattle.dm_onekernel.specs.Kernel.{NamedLink}
pub use Rattle.dm_onekernel.specs.PlainProcess.{setting}
pub use Rattle.dm_onekernel.specs.Service.{is_dropped}
pub use Rattle.dm_onekernel.specs.Start.{slots_with}
pub use Rattle.dm_onekernel.specs.Step.{machine_of, with_machine}
pub use Rattle.dm_onekernel.specs.declared.boot.Format.TheVariants.{One}
pub use Rattle.dm_onekernel.specs.declared.label.Why.TheVariants.{Exit}
pub use Rattle.dm_law_one.proofs.Counted.{pending_of}
pub use Rattle.dm_law_one.proofs.Entered.{Entered, Made, asks, counts, is_counted, request_id, unentered}
pub use Rattle.dm_law_one.proofs.Equal.{id_eq-is, id_eq-same, id_eq-swap, pid_eq-is, pid_eq-same}
pub use Rattle.dm_law_one.proofs.Facts.{none_some}
pub use Rattle.dm_law_one.proofs.Grown.{LifeGrows}
pub use Rattle.dm_law_one.proofs.Movers.{sent_at, sent_off, stayed}
pub use Rattle.dm_law_one.proofs.Names.{Alive, Boot, BootImage, BootProcess, CallNumber, Called, Direction, Ended, Ends, IsValid, Label, Life, List, Manager, MoveNote, Moving, MsgId, None, OneKernel, Option, Outcome, Outputs, Pending}
pub use Rattle.dm_law_one.proofs.Names.{PendingKind, Pid, PlainLink, PlainMessage, PlainProcess, PlainStatus, PlainWhat, Ready, Replies, Reply, Row, Sends, Some, Waiting, Waits, Why, [], and_right, answer_id, answer_to, begun, bind}
pub use Rattle.dm_law_one.proofs.Names.{cases_Bool, code_of_outcome, cond_some, direction_numbered, drop, entry, first_empty, first_failed, first_life, first_number, fun_ext, id_eq, id_of, if◌then◌else◌, in_bag, is_some, length, life_at}
pub use Rattle.dm_law_one.proofs.Names.{link_at, manager, map, nat_le, nat_lt, nat_tests, option_map, option_map_or, or_parts, pid_eq, pid_of, plain_link, processes_are_valid, reception, reg, slice_get, start, starting_at, switchboard, take}
pub use Rattle.dm_law_one.proofs.Names.{when, with_note, with_process, with_sent, without_message, without_note, ⊤, ◌*◌, ◌++◌, ◌+◌, ◌-◌, ◌==◌, ◌||◌, ◌∷◌, ◌≤◌, ◌⊎◌}
pub use Rattle.dm_law_one.proofs.Runs.{after_step, ended_stays_of, start-sound}
pub use Rattle.dm_law_one.proofs.Servers.{ServerSends, board_takes_lem, ends_move-is, manager_takes_lem, next_is_new, why_ended-is}
pub use Rattle.dm_law_one.proofs.Services.{LandsSo, lands-is}
pub use Rattle.dm_law_one.proofs.Sound.{Sound, counts_process, not_server}
pub use Rattle.dm_law_one.proofs.Steps.{Completing, Nexts, Runs, alive-is, at_hand-is, bind-is, completing, nexts, when-is}
pub use Rattle.dm_line.proofs.Below.{all_of_each, both_true, each_of_all, left_true, right_true}
pub use Rattle.dm_line.proofs.Names.{Bool, all_below, ap, arith, false, false≢true, inl, inr, refl, subst, suc, sym, true, zero, ℕ, ◌&&◌, ◌<◌, ◌∙◌, ◌≡◌, ◌≢◌}
pub use Rattle.dm_line.specs.Sets.{at_id, at_machine, at_pair, at_pid, at_record, moved_back, without, without_front, without_id}
pub use Rattle.dm_line.specs.Todo.{Next, Todo, all_of, at_rest}
pub use Rattle.dm_line.specs.declared.line.Line.{Line}
pub use Rattle.dm_line.specs.declared.line.Load.{Load}
pub use Rattle.dm_line.specs.declared.line.Stage.{Stage}
pub use Rattle.dm_law_rule.specs.Acts.{act_of}
pub use Rattle.dm_law_rule.specs.Addresses.{Addresses, Answer, AskedBy, Child, Enclosed, Gets, Holder, Name, Owner, Receiver, Sender, Slot, ToBoard, acting_place, addresses_by, all_follow, answer_gets, belongs_to, board_finds, board_gets, board_keeps, known_place}
pub use Rattle.dm_law_rule.specs.Addresses.{call_gets, child_links, child_number, enclosed_from, encloses, fills, fills_by, first_addresses, first_gives, forwards, gets, given, gives, holder_eq, is_behind, is_told_back, landing_gets, leads_to}
pub use Rattle.dm_law_rule.specs.Addresses.{link_target, links_at, manager_answers, manager_gets, manager_sends, own_given, owner_in, place_known, place_named, place_told, receives_links, receiving_gets, sending_gets, serving_gets, slot_after}
pub use Rattle.dm_law_rule.specs.Addresses.{telling_gets, told_back_gets, unmoved, updated, updated_to}
pub use Rattle.dm_law_rule.specs.Apart.{AllSpare, IsOthers, Spares}
pub use Rattle.dm_law_rule.specs.Burying.{buried, buries, ends_with, preds_of, tells_end}
pub use Rattle.dm_law_rule.specs.Good.{next_step, seen_at}
pub use Rattle.dm_law_rule.specs.Homes.{Homes, are_for_home, are_home, ascends, asker_in, enclosed_of, is_for_home, links_in, names, sender_of, to_of}
pub use Rattle.dm_law_rule.specs.Laws.{AreStill, AskNone, IsStep, IsStill, IsUnasked, KernelsInOrderAlways, LeadHomeAlways, Leads, LeadsStill, MovingStaysAlways, PairsStandAlways, PhasesAlways, QuietIsTested, RestIsTested, StandsOnceAlways}
pub use Rattle.dm_law_rule.specs.Laws.{TellsRightAlways}
pub use Rattle.dm_law_rule.specs.Migrating.{accepts, answers_move, asked_to_move, behind_count, calls_off, chunks_of, forwards_on, gives_piece, leaves, leaves_for, migrates, pieces_of, process_told, sends_on, takes_block, migrates_to, takes_last_chunk, Size, size_of}
pub use Rattle.dm_law_rule.specs.Migrating.{takes_chunk, tells_asker, to_kernel, told_ended, told_here, told_step, updates}
pub use Rattle.dm_law_rule.specs.Order.{KernelsInOrder, is_between_from, ordered}
pub use Rattle.dm_law_rule.specs.Pairs.{HomeStands, PairStands}
pub use Rattle.dm_law_rule.specs.Parts.{Again, Owns, Part, Routes, Says, Spelled, Transmits, behind, goes_out, lines_of, packet_line, pair_window, puts, spelled}
pub use Rattle.dm_law_rule.specs.Phases.{Alone, Asks, Comes, ComesIn, HasCome, HasToken, IsBefore, IsIn, IsLeft, IsToken, IsWay, Moves, Nowhere, Over, Phase, Rests, is_apart, is_away, is_between, is_calloff, is_due, is_early, is_here, has_it}
pub use Rattle.dm_law_rule.specs.Phases.{is_restart, is_unknown, kind_comes, kind_leaves, knows, receiver_in, sender_in, tells_come, token_in, told_between}
pub use Rattle.dm_law_rule.specs.Point.{Point, after, after_line, first_point, kernel_after, label_of, move_target, moved, seen, topic_by}
pub use Rattle.dm_law_rule.specs.Quiet.{IsQuiet, has_mail, is_quiet, pair_is_quiet}
pub use Rattle.dm_law_rule.specs.Rest.{IsAtRest, serves_some}
pub use Rattle.dm_law_rule.specs.Rule.{Room, arrives, board_took, called, comes, comes_to, creation_parts, drop_parts, ended_handles, executes, first_awaited, first_runnable, fits, free_room, goes_round, group_of, has, has_room, hears}
pub use Rattle.dm_law_rule.specs.Rule.{here_handles, is_stale, is_waited_from, kept_from, kernel_handles, kernel_hears, less, let_go, manager_parts, numbers_from, outcome, outstanding_count, process_handles, ran, repeats, resends, routes, says}
pub use Rattle.dm_law_rule.specs.Rule.{serves_status, stops, takes_on, taking_parts, turns}
pub use Rattle.dm_law_rule.specs.Spots.{Held, Inbox, Queue, Spot, StandsAsBag, StandsNowhere, StandsOnce, StandsOutside, StandsRight, Untaken, ids_at, standing, times, untaken}
pub use Rattle.dm_law_rule.specs.Tells.{TellsRight}
pub use Rattle.dm_law_rule.specs.Trails.{AddressesOn, IsOn, LeadsAlong, OwnOn, StoodOnTrail, Trail, Trails, TrailsAlways, Trodden, along, destination, first_trails, first_trodden, is_alive, is_made, is_server, leads, leads_on, trails_after}
pub use Rattle.dm_law_rule.specs.View.{About, Forward, Frozen, Here, Incoming, Known, NothingElse, Of, Pair, SentLoad, Target, Told, Unknown, View, actor, after_head, after_label, after_packet, after_proto, after_put, after_stage, after_taken, has_seat, ring_with, seated, handled_for}
pub use Rattle.dm_law_rule.specs.View.{asks_on, at_least, begins, buried_for, dropped_for, ended, ends_by, first_view, follows_by, forgotten, forward_about, forwarded_for, front_of, frozen_for, goes_back, gone_after, gone_to, handled}
pub use Rattle.dm_law_rule.specs.View.{handled_first, held_for, is_kernels, knowing, known_at, marked, marked_at, nobody, oldest, own_id, queued_for, receiver_of, released, ring_at, routed_on, served_told, sets_off, taken_id, target_of}
pub use Rattle.dm_law_rule.specs.View.{view_after, with_pair, with_ring}
