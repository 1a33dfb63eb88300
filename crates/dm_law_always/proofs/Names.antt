-- What the proofs of this crate name of what lies below it.
pub use Rattle.std.proofs.lemmas.List.{length-drop, length-replicate, length-take}
pub use Rattle.dm_processor.proofs.Lengths.{instruction-lengths}
pub use Rattle.dm_processor.proofs.Names.{KeepsLengths}
pub use Rattle.dm_linktable.proofs.Names.{common_steps, length-map}
pub use Rattle.dm_process.proofs.Names.{min}
pub use Rattle.dm_onekernel.specs.Boot.{area_is_empty, blocks_of_image, controls_child, leads_to_process, leads_to_server, link_is_valid, links_are_valid, memory_size, process_is_valid, process_named}
pub use Rattle.dm_onekernel.specs.Codes.{why_code}
pub use Rattle.dm_onekernel.specs.Pieces.{written_at}
pub use Rattle.dm_onekernel.specs.Refusals.{Check}
pub use Rattle.dm_onekernel.specs.Start.{memory_of}
pub use Rattle.dm_onekernel.specs.declared.boot.Format.{Format}
pub use Rattle.dm_law_one.proofs.Counted.{is_of_memory, is_piece}
pub use Rattle.dm_law_one.proofs.Equal.{pid_eq-swap}
pub use Rattle.dm_law_one.proofs.Facts.{none_some}
pub use Rattle.dm_law_one.proofs.Grown.{Grown}
pub use Rattle.dm_law_one.proofs.Movers.{One, came, out_at, out_off}
pub use Rattle.dm_law_one.proofs.Names.{Switchboard, replay}
pub use Rattle.dm_law_one.proofs.Servers.{note-is}
pub use Rattle.dm_law_rule.proofs.Bags.{BagStep, bag_answered, bag_call, bag_created, bag_dropped, bag_end, bag_gone, bag_no_space, bag_out, bag_ran, bag_receive, bag_refuse, bag_sends, bag_served, bag_took, bag_wait, board_id, id_in}
pub use Rattle.dm_law_rule.proofs.Bags.{if_some-is, landed_id, manager_id, served_id, took_id, zero_if}
pub use Rattle.dm_law_rule.proofs.Changes.{Changes, by_step, running_is}
pub use Rattle.dm_law_rule.proofs.Groups.{IsNet, IsNetLine, arrives_net, begun as begun_state, call_off, group_is, resends_net, stands_right, turn_off}
pub use Rattle.dm_law_rule.proofs.Hearing.{TurnsBack, bury_is, by_hears, left_parts}
pub use Rattle.dm_law_rule.proofs.Homes.{AtHome, at_home, homes_are}
pub use Rattle.dm_law_rule.proofs.Homes.Labels.{SaidOn, is_still, label_on}
pub use Rattle.dm_law_rule.proofs.Homes.Lines.{Home, acting_dropped, home_start, homes_of}
pub use Rattle.dm_law_rule.proofs.Homes.Lists.{stands}
pub use Rattle.dm_law_rule.proofs.Homes.Servers.{ascends_last, ascends_more, ascends_without, numbered_from}
pub use Rattle.dm_law_rule.proofs.Homes.Serves.{ReceivedAt}
pub use Rattle.dm_law_rule.proofs.Homes.Start.{Homes-start}
pub use Rattle.dm_law_rule.proofs.Homes.Turns.{for_home, home_group, none_replaced, runnable_home}
pub use Rattle.dm_law_rule.proofs.Hushed.{hushed, is_put}
pub use Rattle.dm_law_rule.proofs.Letters.{kernels_fresh, letters, letters_bag, not_kernels}
pub use Rattle.dm_law_rule.proofs.Lines.{at_machine_at, at_place, at_record_at, eq_is, eq_self, hidden, not_true, pair_keeps, parts}
pub use Rattle.dm_law_rule.proofs.Lives.{Kept, grown_none}
pub use Rattle.dm_law_rule.proofs.Moves.Called.{called_way}
pub use Rattle.dm_law_rule.proofs.Moves.Lists.{both_lists, both_times, first_off, flip_zero, under_way, without_all, without_at, zero_cases}
pub use Rattle.dm_law_rule.proofs.Moves.Sent.{least_of, sent_way}
pub use Rattle.dm_law_rule.proofs.Moves.States.{front_kernels, front_one, front_way, not_first}
pub use Rattle.dm_law_rule.proofs.Names.{About, Addresses, Again, Alive, Answer, AreStill, AskNone, AskedBy, ToBoard, Bool, Boot, BootImage, BootProcess, CallNumber, Called, Child, Direction, Enclosed, Ended, Ends, Forward, Frozen, Gets, Held, Here}
pub use Rattle.dm_law_rule.proofs.Names.{Holder, Inbox, Incoming, IsIn, IsLeft, IsStep, IsStill, IsValid, Known, Label, LandsSo, Leads, Life, LifeGrows, Line, Link, List, Load, Made, Manager, MessageKind, MoveNote, Moves, Moving, MsgId, Name}
pub use Rattle.dm_law_rule.proofs.Names.{NamedLink, Next, None, NothingElse, Of, OneKernel, Option, Outcome, Outputs, Owner, Owns, Pair, Part, Pending, PendingKind, Phase, Pid, Place, PlainLink, PlainMessage, PlainProcess, PlainStatus}
pub use Rattle.dm_law_rule.proofs.Names.{PlainWhat, Point, Queue, Ready, Receiver, Regs, Replies, Reply, Rests, Routes, Row, Runs, Says, Sender, Sends, ServerSends, Slot, Some, Sort, Sound, Spelled, Spot, Stage, StandsAsBag, StandsNowhere}
pub use Rattle.dm_law_rule.proofs.Names.{StandsOutside, StandsRight, Step, Target, Todo, Told, Transmits, Unknown, Untaken, View, Waiting, Waits, Why, [], accepts, acting_place, after, after_head, after_label, after_line, after_proto}
pub use Rattle.dm_law_rule.proofs.Names.{after_put, after_stage, after_step, after_taken, alive-is, all_follow, answer_id, answer_to, answers_move, ap, are_for_home, are_home, arith, ascends, asker_in, at_hand-is, at_id, at_machine, at_pair}
pub use Rattle.dm_law_rule.proofs.Names.{at_record, begins, begun, behind, bind, bind-is, board_gets, board_takes_lem, buried, buries, bytes_eq, calls_off, cases_Bool, child_number, chunks_of, code_of_outcome, completing, cons_option, counts}
pub use Rattle.dm_law_rule.proofs.Names.{direction_numbered, drop, dropped_for, ended, ends_by, ends_move-is, ends_with, entry, false, false_from_ne_true, false≢true, filter, filter_map, first_empty, first_failed, first_gives, first_life}
pub use Rattle.dm_law_rule.proofs.Names.{first_number, first_point, first_view, fits, forward_about, forwarded_for, forwards, forwards_on, free_room, front_of, gets, given, gives, gives_piece, goes_back, goes_out, gone_to, group_of, handled}
pub use Rattle.dm_law_rule.proofs.Names.{handled_first, hears, held_for, holder_eq, id_eq, id_eq-is, id_eq-same, id_of, if◌then◌else◌, in_bag, inl, inr, instruction, is_alive, is_apart, is_away, is_behind, is_between, is_calloff, is_counted}
pub use Rattle.dm_law_rule.proofs.Names.{is_dropped, is_early, is_for_home, is_here, is_kernels, is_restart, is_server, is_some, is_told_back, kernel_after, kernel_hears, kind_comes, kind_leaves, known_at, knows, label_of, landing_gets}
pub use Rattle.dm_law_rule.proofs.Names.{lands-is, leaves, leaves_for, length, length-append, life_at, lines_of, link_at, link_target, manager, manager_gets, manager_takes_lem, map, marked, migrates, move_target, moved, moved_back, names}
pub use Rattle.dm_law_rule.proofs.Names.{nat_le, nat_lt, nat_tests, nexts, not, not_server, oldest, on_mask, option_and_then, option_map, option_map_or, ordered, outcome, own_given, own_id, owner_in, packet_line, pending_of, pid_eq, pid_eq-is}
pub use Rattle.dm_law_rule.proofs.Names.{pid_eq-same, pid_of, pieces_of, place_known, place_told, plain_kind, plain_link, position_from, preds_of, process_told, processes_are_valid, pulls_piece, puts, queued_for, range_with_len, receiver_in}
pub use Rattle.dm_law_rule.proofs.Names.{receiver_of, reception, refl, reg, replicate, reply_code, reply_eq, right_true, ring_at, routed_on, seen, sender_in, sender_of, sends_on, sent_at, served_told, serving_gets, slice_get, slice_set}
pub use Rattle.dm_law_rule.proofs.Names.{slots_of, slots_with, sort_of, spelled, standing, start, start-sound, starting_at, stayed, subst, suc, switchboard, sym, take, taken_id, takes_block, takes_chunk, target_of, tells_asker, tells_end}
pub use Rattle.dm_law_rule.proofs.Names.{times, to_kernel, to_of, told_back_gets, told_between, told_ended, told_here, told_step, topic_by, true, unentered, untaken, updated, updated_to, updates, view_after, when, when-is}
pub use Rattle.dm_law_rule.proofs.Names.{with_note, with_process, with_sent, without, without_front, without_id, without_message, without_note, zero, ℕ, ⊤, ◌&&◌, ◌*◌, ◌++◌, ◌+◌, ◌-◌, ◌/◌, ◌<◌, ◌==◌, ◌||◌, ◌∙◌, ◌∷◌, ◌≡◌, ◌≢◌, ◌≤◌, ◌⊎◌}
pub use Rattle.dm_law_rule.proofs.Names.{Size, has_seat, handled_for, is_made, known_place, migrates_to, ring_with, seated, size_of, takes_last_chunk}
pub use Rattle.dm_law_rule.proofs.Once.{one_of}
pub use Rattle.dm_law_rule.proofs.Ordered.{context, drop_one, first_not, first_one, put_not, put_one}
pub use Rattle.dm_law_rule.proofs.Outcomes.{by_group, by_net, by_outcome, by_parts}
pub use Rattle.dm_law_rule.proofs.Pairs.Moves.{or_first}
pub use Rattle.dm_law_rule.proofs.Phases.Always.{Phased, bury_over, phased_group, phased_start}
pub use Rattle.dm_law_rule.proofs.Phases.Answers.{Due, about_same, due, due_or_left, front_gone, inbox_is, second}
pub use Rattle.dm_law_rule.proofs.Phases.Groups.{Rooted}
pub use Rattle.dm_law_rule.proofs.Phases.Leaves.{first_of, told_some}
pub use Rattle.dm_law_rule.proofs.Phases.Left.{Pulled, pulled}
pub use Rattle.dm_law_rule.proofs.Phases.Lines.{dropped_known, forwarded_known, held_known, put_at, queued_known}
pub use Rattle.dm_law_rule.proofs.Phases.Net.{head_calm}
pub use Rattle.dm_law_rule.proofs.Phases.Pieces.{not_false, proto_acting, proto_known}
pub use Rattle.dm_law_rule.proofs.Phases.Quiet.{is_kill}
pub use Rattle.dm_law_rule.proofs.Phases.Rests.{rests_here}
pub use Rattle.dm_law_rule.proofs.Phases.Stand.{InPhases, LeftOver, Token, calm_phases, token_at, token_is}
pub use Rattle.dm_law_rule.proofs.Requests.{by_calls_off, by_migrates, called_parts}
pub use Rattle.dm_law_rule.proofs.Rooted.Groups.{moves_away, rooted}
pub use Rattle.dm_law_rule.proofs.Seen.{aim, seen_none, sets}
pub use Rattle.dm_law_rule.proofs.Serving.{Stops, by_forwards, by_handles, by_round}
pub use Rattle.dm_law_rule.proofs.Standing.{StandsAsBag-elsewhere, StandsAsBag-one, times-append}
pub use Rattle.dm_law_rule.proofs.States.{State, put_told_off}
pub use Rattle.dm_law_rule.proofs.Telling.{AllSayable, Sane, Sayable, came_from, outcome_sayable, part_sane, sane_line}
pub use Rattle.dm_law_rule.proofs.Trails.Labels.{label_told, label_topic}
pub use Rattle.dm_law_rule.proofs.Trails.Lines.{behind_where, forwarded_back, leads_where, unnamed_receiver, unnamed_sender}
pub use Rattle.dm_law_rule.proofs.Trails.Places.{Comes, Goes, Links, Named, holder_is}
pub use Rattle.dm_law_rule.proofs.Trails.Puts.{child_is, is_own, not_own, plain_gives, put_named, told_again}
pub use Rattle.dm_law_rule.proofs.Trails.Spares.{Outside, creates_what_spares, finds_spares, gives_spares, keeps_spares, made_spares, manager_takes_spares, not_is, receives_spares, sends_spares, spared_receiver, spared_sender, spares}
pub use Rattle.dm_law_rule.proofs.Trails.Spares.{spares_both, two_more}
pub use Rattle.dm_law_rule.proofs.Trails.Steps.{coming_is, destination_expects, source_holds, source_knows}
pub use Rattle.dm_law_rule.proofs.Turns.{served_keeps}
pub use Rattle.dm_law_rule.specs.Addresses.{goes_between}
pub use Rattle.dm_law_rule.specs.Good.{IsRun}
pub use Rattle.dm_law_rule.specs.Migrating.{board_size, manager_size, names_size, process_size, requests_size}
pub use Rattle.dm_law_rule.specs.Phases.{tells_between, tells_onward}
pub use Rattle.dm_law_rule.specs.Point.{labels, with_label}
pub use Rattle.dm_law_rule.specs.View.{first_told, rejoins, target_in}
pub use Rattle.dm_law_always.specs.Fits.{Each, IsPending, KernelFits, LinkFits, Lives, NoteFits, PendingFits, ProcessFits, SlotFits, WhatFits, awaits, gives_no_right, has_bytes, is_for, kind_eq, move_fits, piece_fits, status_awaits}
pub use Rattle.dm_law_always.specs.Fits.{takes_users}
pub use Rattle.dm_law_always.specs.Found.{Found, has_no_queue, has_nothing_held, is_fixed, machine_of}
pub use Rattle.dm_law_always.specs.KnownStands.{KnownStands, agrees, rings, turns_here}
pub use Rattle.dm_law_always.specs.Laws.{FitsAlways, FoundAlways, GoesOnAlways, KnownAlways, RuleDecides, ShorterBegins}
pub use Rattle.dm_law_always.specs.Order.{LeadsBy, ReceivesInOrder, channel_in}
