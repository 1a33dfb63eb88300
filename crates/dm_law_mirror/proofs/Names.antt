-- What the proofs of this crate name of what lies below it.
pub use Rattle.std.proofs.lemmas.List.{drop-drop, drop-map}
pub use Rattle.std.proofs.lemmas.Option.{cond_some as some_is}
unfoldable pub use Rattle.dm_records.specs.Machines.{machines_with}
pub use Rattle.dm_records.specs.declared.record.Record.{Record}
pub use Rattle.dm_wire.proofs.Cursor.{length_marked}
pub use Rattle.dm_stream.proofs.Follows.{MayCome-stands}
pub use Rattle.dm_stream.proofs.Lists.{drop-more, get-drop}
pub use Rattle.dm_stream.proofs.Names.{Acknowledge, Deliver, DeliverBack, Give, GoAgain, GoOut, OtherAck, OtherData, Stream, TakeKept, goes_again, happens, just_put, kept_once, kept_under, marked, max}
pub use Rattle.dm_stream.proofs.Places.{place-kept_other, place-kept_same, place-moved_up}
pub use Rattle.dm_stream.proofs.Together.{StreamStands-happens, StreamStands-start}
unfoldable pub use Rattle.dm_stream.specs.Packets.{load_at}
pub use Rattle.dm_stream.specs.Receiving.{advanced}
pub use Rattle.dm_message.specs.Kinds.{IsKindOfPlain}
pub use Rattle.dm_packet.proofs.Names.{message, only_packet, spell_message}
pub use Rattle.dm_packet.proofs.Packets.{packet_again}
unfoldable pub use Rattle.dm_packet.specs.Packets.{packet_of, read_rest, spelling}
pub use Rattle.dm_process.specs.Process.{status_is_runnable}
pub use Rattle.dm_statebytes.proofs.Names.{IsField-number, Ok, flat_map, flat_map-cons, guard_ok, spell_slot, ◌>>=◌}
pub use Rattle.dm_statebytes.proofs.Sizes.{numbers_size}
unfoldable pub use Rattle.dm_statebytes.specs.Shell.{registers, shell_spelling}
pub use Rattle.dm_migrate.proofs.Names.{CanCome, CanMove, Cargo, ComesByPieces, HasBlock, HasPiece, IsNextPiece, Shell, after_block, after_chunk, cargo_of, coming, is_last, map-append, shell_of}
pub use Rattle.dm_migrate.proofs.Way.{by_pieces, can_come, comes_back}
pub use Rattle.dm_migrate.specs.Cargo.{ask_for}
unfoldable pub use Rattle.dm_resident.specs.Packed.{IsReadAgain}
pub use Rattle.dm_resident.specs.declared.Resident.{Resident}
pub use Rattle.dm_migrate.specs.Way.{IsOfSystem}
pub use Rattle.dm_onekernel.specs.Step.{why_ended}
pub use Rattle.dm_switchboard.proofs.Imports.{Board}
pub use Rattle.dm_switchboard.proofs.Plain.{plain_request}
pub use Rattle.dm_procman.proofs.Names.{tells_to_move}
pub use Rattle.dm_procman.proofs.Plain.{plain_created, plain_moved, plain_no_room, plain_user}
pub use Rattle.dm_procman.specs.Making.{address_at}
pub use Rattle.dm_law_one.proofs.Facts.{none_some}
pub use Rattle.dm_law_one.proofs.Runs.{reached, received_once}
pub use Rattle.dm_law_one.proofs.Sound.{not_counted}
pub use Rattle.dm_law_one.proofs.Steps.{after_ran}
pub use Rattle.dm_datamove.proofs.Names.{IsAnswerOf}
pub use Rattle.dm_syscall.proofs.Names.{length-written}
pub use Rattle.dm_syscall.specs.Plainly.{plain_sent}
pub use Rattle.dm_line.proofs.Below.{all_same}
pub use Rattle.dm_line.specs.Each.{all_below as each_below}
pub use Rattle.dm_line.specs.Todo.{following, next_and_left, pass_begun}
pub use Rattle.dm_line.specs.declared.end_line.Standing.{Standing}
pub use Rattle.dm_law_rule.proofs.Bags.{bag_none, cases_zero}
pub use Rattle.dm_law_rule.proofs.Groups.{GroupIs, stands_once_always}
pub use Rattle.dm_law_rule.proofs.Homes.Lines.{acting_label}
pub use Rattle.dm_law_rule.proofs.Letters.{letter_of}
pub use Rattle.dm_law_rule.proofs.Moves.Sent.{fits_packet, fits_put}
pub use Rattle.dm_law_rule.proofs.Names.{Asks, Comes, Completing, HasCome, HomeStands, IsToken, Nexts, Room, StandsOnce, actor, after_packet, all_of, append-nil, at_least, brings_piece, comes_to, counts_process, eq-eqb, eqb-true, gone_after}
pub use Rattle.dm_law_rule.proofs.Names.{has, has_mail, ids_at, is_due, is_quiet, is_stale, is_waited_from, kept_from, knowing, left_true, less, next_step, nobody, numbers_from, pair_is_quiet, repeats, resends, seen_at}
pub use Rattle.dm_law_rule.proofs.Names.{serves_some, taking_parts, tells_come, token_in}
pub use Rattle.dm_law_rule.proofs.Pairs.{Pairs, pair_home, pair_stands, pairs_stand_always}
pub use Rattle.dm_law_rule.proofs.Pairs.Comes.{less-right}
pub use Rattle.dm_law_rule.proofs.Pairs.Lines.{AllFit, onward, pair_same, taken_pair}
pub use Rattle.dm_law_rule.proofs.Pairs.Migrating.{calls_off_fit, migrates_fit}
pub use Rattle.dm_law_rule.proofs.Pairs.Stand.{two_of}
pub use Rattle.dm_law_rule.proofs.Pairs.Turns.{turns_fit}
pub use Rattle.dm_law_rule.proofs.Phases.Always.{bury_away, ended_away, living_phase, ranked_in}
pub use Rattle.dm_law_rule.proofs.Phases.Answers.{waited_is}
pub use Rattle.dm_law_rule.proofs.Phases.Behind.{never_behind}
pub use Rattle.dm_law_rule.proofs.Phases.Ends.{is_gone}
pub use Rattle.dm_law_rule.proofs.Phases.Lines.{home_full, put_spots, queued_spots}
pub use Rattle.dm_law_rule.proofs.Phases.Pieces.{and_false}
pub use Rattle.dm_law_rule.proofs.Phases.Put.{first_none, last_there, put_spot, put_there}
pub use Rattle.dm_law_rule.proofs.Phases.Ranked.{Ranked}
pub use Rattle.dm_law_rule.proofs.Phases.Stand.{TokenOrLeft, held_plain, queued_plain}
pub use Rattle.dm_law_rule.proofs.QuietTests.{eq_not, passes_quiet, quiet_passes}
pub use Rattle.dm_law_rule.proofs.RestTests.{passes_rest, rest_passes}
pub use Rattle.dm_law_rule.proofs.Seen.{about_off}
pub use Rattle.dm_law_rule.proofs.Serving.{buries_kept, ends_kept}
pub use Rattle.dm_law_rule.proofs.Standing.{once_at, spot_cases}
pub use Rattle.dm_law_rule.proofs.States.{PairsFit, said, says_next, transmits_next}
pub use Rattle.dm_law_rule.proofs.Telling.{plain_not, tells_right_always}
pub use Rattle.dm_law_rule.proofs.Trails.Steps.{destination_comes, expects_is, holds_is}
pub use Rattle.dm_law_rule.proofs.Trails.Within.{forwarded_acting, held_acting, queued_acting}
pub use Rattle.dm_law_rule.specs.Acts.{Act}
pub use Rattle.dm_law_rule.specs.Ends.{Stood, first_with, standing_of, stood_at}
pub use Rattle.dm_law_rule.specs.Good.{IsKept, first_undelivered}
pub use Rattle.dm_law_rule.specs.Migrating.{links_size, to_kernel as rule_to_kernels, status_size}
pub use Rattle.dm_law_rule.specs.Phases.{Comes as Brought}
pub use Rattle.dm_law_rule.specs.Rule.{and, blocks_of, taken_at, taken_by, taken_of_home, takes_room}
pub use Rattle.dm_law_rule.specs.View.{added, calls_back, forgetting, front_told, serving, with_caller}
pub use Rattle.dm_law_rule.specs.Worn.{full_route, is_full, worn_in}
pub use Rattle.dm_law_places.proofs.Any.AnyLine.{no_process}
pub use Rattle.dm_law_places.proofs.Any.AnyRun.{group_needs, places_follow_by}
pub use Rattle.dm_law_places.proofs.Following.Changed.{free_off, plain_sent_on}
pub use Rattle.dm_law_places.proofs.Following.Followed.{absent_moved, among_times, called_mirrors, forwarded_mirrors, moves_forwarded, process_restarted, sent_on_mirrors, update_gets}
pub use Rattle.dm_law_places.proofs.Following.Updated.{board_told, manager_told, updated_board_mirrors, updated_ended_mirrors, updated_manager_mirrors, updated_mirrors}
pub use Rattle.dm_law_places.proofs.Following.UpdatedCounts.{updated_board_count, updated_count, updated_manager_count}
pub use Rattle.dm_law_places.proofs.Keeps.{of_map, parts, there_of}
pub use Rattle.dm_law_places.proofs.Labels.Serves.{plainly, plainly_is}
pub use Rattle.dm_law_places.proofs.Lines.{lines_keep, mirrors_view, moves_label, routed_keeps, told_keeps}
pub use Rattle.dm_law_places.proofs.Matches.{Ends, acted_with, answers_match, call_matches, completed_matches, fault_matches, lands_match, ran_matches}
pub use Rattle.dm_law_places.proofs.Names.{About, Addr, Addresses, Again, Alive, ArrayVec, Child, Direction, Ended, Fault, Forward, Frozen, Gets, GroupNeeds, Holder, Inbox, Incoming, IsStep, KeepsPlaces, Known, Label, Leads, Life, Load}
pub use Rattle.dm_law_places.proofs.Names.{Machine, Manager, Managing, MessageKind, Mirrors, MirrorsKernel, MirrorsPoint, MoveNote, Name, NamedLink, OneKernel, Outcome, Owns, Pair, Pending, PendingKind, Place, Placed, PlainLink, PlainMessage}
pub use Rattle.dm_law_places.proofs.Names.{PlainProcess, PlainStatus, PlainWhat, Point, Receiver, Regs, Reply, Rest, Routes, Row, Says, Sender, SentLoad, Slot, Sort, Sound, Spelled, Spot, Stage, StepNeeds, Switchboard, Told, Transmits, View}
pub use Rattle.dm_law_places.proofs.Names.{act_of, addresses_by, after, after_label, after_landing, after_line, after_step, and-both, answer, answer_id, answer_of, answer_to, answer_with, applied, ascends, asker_of, at_hand-is, at_home, at_pid}
pub use Rattle.dm_law_places.proofs.Names.{begun_process, behind, behind_count, bind-is, board_took, by_migrates, call_plainly, cases_Bool, child_named, child_number, code_of_outcome, control_link, count_by, enclosed, ends_move, ends_move-is}
pub use Rattle.dm_law_places.proofs.Names.{ends_plainly, ends_with, filter, first_failed, first_gives, first_point, first_told, first_view, forwarded_for, gets, given, goes_on_plainly, gone_answer, group_of, handled, id_eq, id_eq-is}
pub use Rattle.dm_law_places.proofs.Names.{id_eq-same, id_eq-swap, id_of, instruction, is_among, is_kernels, is_own, kernel_after, kernel_at, label_of, length-map, lines_of, manager_request, manager_took, memory_of, moved, moved_answer}
pub use Rattle.dm_law_places.proofs.Names.{named_is_behind, nat_le, not_kernels, or-left, or-right, or_second, outcome, own_given, own_id, pending_is_behind, pending_request, pid_eq-is, pid_eq-same, piece_of, place_of, place_told, placed_start}
pub use Rattle.dm_law_places.proofs.Names.{placed_step, plain_board, plain_called, plain_child, plain_completed, plain_kind, plain_landed, plain_link, plain_manager, plain_message, plain_named, plain_note, plain_pending, plain_pending_numbered}
pub use Rattle.dm_law_places.proofs.Names.{plain_process, plain_status, plain_what, preds_of, puts, receiver_of, seen, sent_all, sent_on, slice_get-map, slot_is_behind, slots_of, slots_with, sort_of, spelled, standing, started, started_at}
pub use Rattle.dm_law_places.proofs.Names.{acting_place, status_plainly, times, to_kernel, unmoved, view_after, what_is_on, when-is, with_note, with_what, without_note, written_at}
pub use Rattle.dm_law_places.proofs.OwnPuts.{child_place, no_child, own_put_mirrors}
pub use Rattle.dm_law_places.proofs.Queues.{calls_with, with_queue}
pub use Rattle.dm_law_places.proofs.Starts.{start_mirrors}
pub use Rattle.dm_law_places.proofs.Steps.{placed_follows}
pub use Rattle.dm_law_places.proofs.Whats.{block_what, create_what, created_what, gone_what, kill_what, move_what, moved_what, no_room_what, read_what, resume_what, stop_what, user_what, write_what, written_what}
pub use Rattle.dm_kernel.proofs.Fitting.{managed_fits, user_fits}
pub use Rattle.dm_kernel.proofs.LawfulRows.{of_known}
pub use Rattle.dm_kernel.proofs.LawfulStart.{opened_lawful, opened_may}
pub use Rattle.dm_kernel.proofs.LawfulTurns.{before_lawful}
pub use Rattle.dm_onekernel.proofs.Making.{image_fits}
pub use Rattle.dm_kernel.proofs.Names.{Block, BootMachine, Chunk, FitsEnded, FitsHere, FitsKernel, FitsKnown, FitsManager, FrontMay, HasChunk, HasTaken, IfSome, IsAwaited, IsForManager}
pub use Rattle.dm_kernel.proofs.Names.{IsLawfulProcess, IsLawfulStatus, IsServer, IsSuch, IsWithin, MayHandle, MayRestart, MayTurn, Nothing, Result, Taken, Wanted, all_sent_back, all_sent_on, ask_of, blocks_at, blocks_of_image, expected}
pub use Rattle.dm_kernel.proofs.Names.{free_blocks, free_slots, freezes, freezing, frozen, image_is_valid, is_on, length-drop, links_are_valid, next_pid, opened, own, process_is_valid, process_named, processes_are_valid, pull}
pub use Rattle.dm_kernel.proofs.Names.{range_with_len, receive_refusals, room_of, starting_at, tells_asker, turned, turns, update_of, with_frozen, with_pred, with_record, with_released, with_reserved, with_sent, without, without_arriving}
pub use Rattle.dm_kernel.proofs.Names.{without_first_on, without_preds, ◌/◌}
pub use Rattle.dm_kernel.proofs.Opening.{room_from}
pub use Rattle.dm_kernel.proofs.Serving.{call_keeps, ran_keeps}
pub use Rattle.dm_kernel.specs.Carried.{FreezesReceiverWhole, KnownIsWhole}
pub use Rattle.dm_kernel.specs.Coming.{is_expected, with_expected, piece_lines}
pub use Rattle.dm_kernel.specs.Departing.{without_leaving}
pub use Rattle.dm_kernel.specs.Handle.{queued}
pub use Rattle.dm_kernel.specs.May.{FitsBoard, MayLeave}
pub use Rattle.dm_kernel.specs.State.{with_known}
pub use Rattle.dm_law_always.proofs.Based.Always.{based_always}
pub use Rattle.dm_law_always.proofs.Based.Constants.{constant_group}
pub use Rattle.dm_law_always.proofs.Based.Groups.{Begins}
pub use Rattle.dm_law_always.proofs.Based.Needs.{Needs, NeedsLabel, Resting, Walks, WalksOf, life_sort}
pub use Rattle.dm_law_always.proofs.Based.Rows.{handles_walks, resting, round_walks}
pub use Rattle.dm_law_always.proofs.Fits.Creates.{fresh_child}
pub use Rattle.dm_law_always.proofs.Fits.Rises.{both, set_at}
pub use Rattle.dm_law_always.proofs.Fits.Start.{get_some}
pub use Rattle.dm_law_always.proofs.Found.Groups.{told_there}
pub use Rattle.dm_law_always.proofs.Found.Lists.{more_front}
pub use Rattle.dm_law_always.proofs.Found.Real.{each_pending}
pub use Rattle.dm_law_always.proofs.Goes.Always.{front, goes_on, own_by, stands_first}
pub use Rattle.dm_law_always.proofs.Goes.Front.{ForWhom, Front, begun, for_whom, here_free, home_of, is_manager, served_is, told_receiver}
pub use Rattle.dm_law_always.proofs.Goes.Own.{apart_is, is_it, source_knows}
pub use Rattle.dm_law_always.proofs.Goes.Process.{alive_of, gone_is}
pub use Rattle.dm_law_always.proofs.Goes.Runs.{Both, RunGoes, RunStarts, both_group, both_start}
pub use Rattle.dm_law_always.proofs.Goes.Servers.{can_handle, pending_is}
pub use Rattle.dm_law_always.proofs.Goes.Serves.{reply_same, running_of}
pub use Rattle.dm_law_always.proofs.Goes.Turns.{Droppable, IsFor, at_hand_of, droppable_on, dropped_is, queue_drops, user_dropped}
pub use Rattle.dm_law_always.proofs.Names.{AllSayable, Called, Held, Here, InPhases, IsIn, IsLeft, IsNet, IsNetLine, IsPending, IsRun, LandsSo, LeadsBy, LeftOver, Moves, Moving, NothingElse, Of, PendingFits, Phase, Phased, Queue, Ready}
pub use Rattle.dm_law_always.proofs.Names.{Rests, Sane, Sayable, ServerSends, StandsAsBag, StandsAsBag-elsewhere, StandsAsBag-one, StandsNowhere, StandsOutside, StandsRight, Target, Token, Unknown, Untaken, Waiting, WhatFits, about_same}
pub use Rattle.dm_law_always.proofs.Names.{after_proto, after_put, agrees, alive-is, answers_move, arrives_net, at_id, at_pair, at_record, at_record_at, awaits, bag_answered, bag_created, bag_gone, bag_no_space, bag_served, begins}
pub use Rattle.dm_law_always.proofs.Names.{board_takes_lem, buried, by_calls_off, by_hears, chunks_of, coming_is, completing, counts, destination_expects, dropped_for, ended, entry, eq_is, eq_self, false_from_ne_true, first_life, fits}
pub use Rattle.dm_law_always.proofs.Names.{forward_about, forwards_on, free_room, front_of, goes_back, goes_between, goes_out, gone_to, group_is, has_bytes, has_no_queue, has_nothing_held, hears, holder_eq, hushed, if_some-is, inbox_is}
pub use Rattle.dm_law_always.proofs.Names.{is_alive, is_apart, is_away, is_between, is_calloff, is_counted, is_dropped, is_early, is_fixed, is_for, is_here, is_kill, is_put, is_restart, is_server, kernel_hears, kernels_fresh, kind_comes}
pub use Rattle.dm_law_always.proofs.Names.{kind_eq, kind_leaves, known_at, knows, labels, lands-is, least_of, leaves_for, length-append, letters, life_at, machine_of, manager_takes_lem, migrates, move_target, nexts, not_false, not_first}
pub use Rattle.dm_law_always.proofs.Names.{not_server, not_true, oldest, option_and_then, out_off, outcome_sayable, packet_line, pair_keeps, part_sane, piece_fits, pieces_of, process_told, proto_acting, pulled, pulls_piece, put_at}
pub use Rattle.dm_law_always.proofs.Names.{put_told_off, queued_for, receiver_in, reception, replay, reply_code, resends_net, rests_here, ring_at, rings, routed_on, sane_line, sender_in, sends_on, served_id, source_holds}
pub use Rattle.dm_law_always.proofs.Names.{stands_right, start, status_awaits, takes_block, takes_chunk, target_of, tells_end, tells_onward, times-append, to_of, token_at, token_is, told_between, told_ended, told_here, told_some}
pub use Rattle.dm_law_always.proofs.Names.{told_step, unentered, untaken, updates, when, why_code, with_process, without_front, without_id, without_message, zero_if}
pub use Rattle.dm_law_always.proofs.Own.Told.{OwnTold, is_place, is_process, is_target, own_sort}
pub use Rattle.dm_law_always.proofs.Queued.{IsQueued}
pub use Rattle.dm_law_always.proofs.RunLabels.{after_replay, group_replay, labels-append, replay-append}
pub use Rattle.dm_law_always.proofs.Runs.{Run}
pub use Rattle.dm_law_always.proofs.RunsAlways.{run_always, run_group, run_start}
pub use Rattle.dm_law_always.proofs.Tables.Always.{format_always, tables_always}
pub use Rattle.dm_node.proofs.Here.{StaysAt, asks_move_stays, calls_off_stays, turn_stays}
pub use Rattle.dm_node.proofs.Names.{All-append, All-cons, All-drop, All-get_or, All-nil, All-push, Arrival, Arrived, Asker, BootImage, BootProcess, Completion, Departure, Early, Halt, IsLawfulMessage, IsLawfulPart, IsLawfulTurned}
pub use Rattle.dm_node.proofs.Names.{IsMachine, IsRoute, KernelKnown, KernelState, Landed, Landing, MoveError, Old, Part, Process, Receiving, Sending, Status, Turned, What, accepts, acknowledges, acts, after_arrival, after_next}
pub use Rattle.dm_node.proofs.Names.{after_serving, again, all_out, arrival, asked_lawful, asks_manager, asks_move, before, before_turn, begins_process, bind, block_of, board_handles, called_off_lawful, calls_arriving_off, calls_off}
pub use Rattle.dm_node.proofs.Names.{child_of, chunk_of, comes_in, count_out, counts_out, due, empty, ended_handles, first_on, first_out, forwards_and, fresh_receiving, fresh_sending, frozen_of, given_count, gives, gives_piece, handles}
pub use Rattle.dm_node.proofs.Names.{hears_piece, here_handles, incoming_of, is_not_called, is_some, is_told_back, is_whole, is_worn, kernel_handles, kind_of, leaves, lets_next, makes, manager, manager_handles, moved_back, moved_up}
pub use Rattle.dm_node.proofs.Names.{nat_lt, next, none_waits, numbered, outstanding, process_handles, put_line, restarted, restarts, restarts_as, routes, routes_away, routes_home, says_stale, sends_due, serving_answer}
pub use Rattle.dm_node.proofs.Names.{state_of, stays, switchboard, takes_next, takes_piece, then_, then_acknowledges, told_to_move, took_piece, turn, turn_lawful, turns_back, window, with_acked, with_all, with_child, with_given, with_here}
pub use Rattle.dm_node.proofs.Names.{with_message, with_piece, with_receiver, with_sender}
pub use Rattle.dm_node.proofs.Staying.{MayAfter, arrives_may, turn_may}
pub use Rattle.dm_node.specs.Acts.{sends}
unfoldable pub use Rattle.dm_node.specs.Acts.{lets_go, takes_kept}
pub use Rattle.dm_node.specs.May.{FitsLoad}
pub use Rattle.dm_node.specs.Out.{packet_of_load}
pub use Rattle.dm_node.specs.Wired.{says}
pub use Rattle.dm_world.proofs.Names.{Ack, Acted, Acts, All, All-head, All-tail, AreReadBack, Bool, Boot, Data, Directive, EndLine, Err, FreezesWhole, Goes, Happened, IsLawfulState, IsSome, IsValid, Line, Link, List, MayAct, MayArrive}
pub use Rattle.dm_world.proofs.Names.{MayAskMove, MayCallOff, MayDeliver, MayRead, MayStep, Message, MsgId, Named, Next, NodeState, None, Option, Out, Packet, PacketError, Pass, Pid, Said, Seen, Sends, Sent, Some, Spoken, Step, Todo, Two}
pub use Rattle.dm_world.proofs.Names.{Why, WorldState, Worn, [], acted, after_mark, all_below, ap, append_assoc, arith, arrives, at_machine, at_rest, awaited_lines, begin_pass, below, bytes_at, common_steps, cond, delivers, drop}
pub use Rattle.dm_world.proofs.Names.{drop-append-le, drop_all, eqb_tells, false, false≢true, first_awaited, first_had, first_number, first_says, first_unseen, gave_bytes, gave_read, gave_some, get_or_from_slice_get, here, here_or_later}
pub use Rattle.dm_world.proofs.Names.{home_with, if◌then◌else◌, images_are_valid, in_pass, inl, inr, is_over, joined_below, keeps_over, length, lines_in, link_at, list_line, map, names_of, nat_tests, next_delivery, next_directive}
pub use Rattle.dm_world.proofs.Names.{next_pass, next_turn, not, option_map, option_map_or, or, over_in, pairs_of, pairs_with, pid_eq, pid_of, reads, record_lines, record_queue, refl, settles, slice_get, slice_get_cases, slice_get_past}
pub use Rattle.dm_world.proofs.Names.{slice_get_within, spoken, subst, suc, sym, take, takes_turn, tick, true, with_over, with_packet, world_step, zero, ℕ, ⊤, ◌&&◌, ◌*◌, ◌++◌, ◌+◌, ◌-◌, ◌<◌, ◌==◌, ◌^◌, ◌||◌, ◌∙◌, ◌∷◌, ◌≡◌, ◌≢◌, ◌≤◌, ◌⊎◌}
pub use Rattle.dm_world.specs.Ends.{HasPlainEnd, alive_lines, come_lines, come_whole, held_for}
pub use Rattle.dm_world.specs.Readable.{IsReadable, NodeReads, SenderReads, WiresRead, gave}
pub use Rattle.dm_world.specs.Whole.{AreWhole}
pub use Rattle.dm_world.specs.World.{first_world}
pub use Rattle.dm_law_mirror.specs.Able.{AllMayAct}
pub use Rattle.dm_law_mirror.specs.Laws.{EndIsSaid, EndMay, GoodLeads, MailIsSaid, NextIsSaid, PlacesFollow, QuietIsSaid, RestIsSaid, RunBegins, RunGoesOn, StartStands, StepsStand}
pub use Rattle.dm_law_mirror.specs.Local.{ActsLocally, AsLong, DoesSame, IsFresh, NothingComes, PutsFrom, ReadsLocally, SamePacket, marked_by, unnumbered}
pub use Rattle.dm_law_mirror.specs.Made.{MadeStands}
pub use Rattle.dm_law_mirror.specs.Own.{AllOwnStand, OwnStands, about_of, told_of}
pub use Rattle.dm_law_mirror.specs.Ran.{Ran, RanBegins, RanGoesOn, RunIsRan, ones}
pub use Rattle.dm_law_mirror.specs.Run.{GoesOn, RunStands, Steps, StopsWorn, joined}
pub use Rattle.dm_law_mirror.specs.Stands.{AreMessages, CanBeCarried, ComesStand, CountsStand, HereStands, History, KernelStands, KnownStands, LeavesStand, NodeStands, PairStands, PredsStand, RoomStands, Stands, StandsWith, bytes_of, line_of}
pub use Rattle.dm_law_mirror.specs.Stands.{load_of, message_id, stream_of}
pub use Rattle.dm_law_mirror.specs.Todo.{IsDirective, IsTodo, IsTwo}
pub use Rattle.dm_law_mirror.specs.Tokens.{AllRecords, Carries, IsAsked, LeftCarries, LeftStands, TokenStands, TokensStand, Wants, cargo_at, destination_of, is_due_piece, is_piece, source_of, resident_at}
pub use Rattle.dm_migrate.specs.Answer.{IsAskToCome}
