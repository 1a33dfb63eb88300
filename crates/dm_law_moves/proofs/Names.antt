-- What the proofs of this crate name of what lies below it.
pub use Rattle.std.proofs.Common.{mul-add, mul-one, mul-suc, suc-mul}
pub use Rattle.std.proofs.Math.Seq.{drop-nil}
pub use Rattle.std.proofs.lemmas.Bool.{eqb-false}
pub use Rattle.std.proofs.lemmas.Bool.Decides.{leb_tells}
pub use Rattle.std.proofs.lemmas.List.Elements.{filter-append}
pub use Rattle.std.proofs.lemmas.List.Elements.{All-append, All-cons, All-nil}
pub use Rattle.std.proofs.lemmas.Nat.{mul-le}
pub use Rattle.std.specs.List.{All}
pub use Rattle.std.specs.Option.{option_and_then}
unfoldable pub use Rattle.dm_processor.specs.Instructions.{instruction}
pub use Rattle.dm_schedule.proofs.Names.{◌^◌}
pub use Rattle.dm_onekernel.specs.Manager.{pending_numbered}
pub use Rattle.dm_onekernel.specs.Pieces.{piece_of}
pub use Rattle.dm_onekernel.specs.Service.{manager_took}
pub use Rattle.dm_onekernel.specs.Start.{begun as started}
pub use Rattle.dm_law_one.proofs.Counted.{Sent}
pub use Rattle.dm_law_one.proofs.Facts.{none_some}
pub use Rattle.dm_law_one.proofs.Names.{bool_eq, receptions}
pub use Rattle.dm_law_one.proofs.Notes.{Notes-agree}
pub use Rattle.dm_law_one.proofs.Runs.{ended_stays, notes_always_agree, reached}
pub use Rattle.dm_law_one.proofs.Sound.{not_counted}
pub use Rattle.dm_law_one.proofs.Steps.{Sent-from}
pub use Rattle.dm_line.proofs.Deliveries.{here_or_later}
pub use Rattle.dm_line.proofs.Names.{eqb_tells}
pub use Rattle.dm_line.specs.Each.{sum_below}
pub use Rattle.dm_line.specs.Ends.{block_line, home_with, joined_below, list_line, memory_lines, trimmed}
pub use Rattle.dm_line.specs.Todo.{or}
pub use Rattle.dm_line.specs.Todo.{Seen, Two, begin_pass, below, following, in_pass, next_and_left, next_delivery, next_directive, next_pass, next_turn, pairs_of, pairs_with, pass_begun, settles, takes_turn}
pub use Rattle.dm_line.specs.declared.end_line.EndLine.{EndLine}
pub use Rattle.dm_line.specs.declared.end_line.Standing.{Standing}
pub use Rattle.dm_line.specs.declared.pass.Pass.{Pass}
pub use Rattle.dm_line.specs.declared.pass.Pass.TheVariants.{Settle}
pub use Rattle.dm_law_rule.proofs.Apart.Groups.{moves_known, moving_stays_always, outcome_apart}
pub use Rattle.dm_law_rule.proofs.Apart.Rows.{ApartOf, FirstApart, SparesPart, apart_first}
pub use Rattle.dm_law_rule.proofs.Apart.Turns.{calls_off_apart, migrates_apart, net_apart, turns_apart}
pub use Rattle.dm_law_rule.proofs.Bags.{bag_asked, cases_zero, out_of}
pub use Rattle.dm_law_rule.proofs.Changes.{Follows, Lives, is_served}
pub use Rattle.dm_law_rule.proofs.Groups.{GroupIs, acked_off, deliver_off, early_off, fits, migrate_off, tick_off}
pub use Rattle.dm_law_rule.proofs.Groups.{stands_once_always}
pub use Rattle.dm_law_rule.proofs.Hearing.{IsHeardLine, Kept, calls_off_kept, hears_kept, kept_forward}
pub use Rattle.dm_law_rule.proofs.Homes.{HomesAre}
pub use Rattle.dm_law_rule.proofs.Homes.Calls.{or-left, or-right}
pub use Rattle.dm_law_rule.proofs.Homes.Lines.{acting_label}
pub use Rattle.dm_law_rule.proofs.Homes.Parts.{acting_taken}
pub use Rattle.dm_law_rule.proofs.Homes.Servers.{still_pending}
pub use Rattle.dm_law_rule.proofs.Letters.{from_kernel, gone_in, letter_of}
pub use Rattle.dm_law_rule.proofs.Lines.{at_machine_off, at_record_off, past_place, without_counts}
pub use Rattle.dm_law_rule.proofs.Moves.Called.{called_off, unheld}
pub use Rattle.dm_law_rule.proofs.Moves.Lists.{emptied}
pub use Rattle.dm_law_rule.proofs.Moves.Rows.{accepted_off, asked_off, frozen_off, home_again, home_off, lacks_off, left_off, memory_off, proto_off, restarted_off}
pub use Rattle.dm_law_rule.proofs.Moves.Sent.{least_of as either, fits_packet, fits_put, line_next}
pub use Rattle.dm_law_rule.proofs.Moves.States.{kernels_by}
pub use Rattle.dm_law_rule.proofs.Names.{AddressesOn, Asks, Comes, ComesIn, IsOn, IsQuiet, IsToken, Nowhere, One, Over, Spares, StoodOnTrail, Trail, Trails, TrailsAlways, Trodden, act_of, actor, addresses_by, along, append-nil, append_assoc}
pub use Rattle.dm_law_rule.proofs.Names.{behind_count, belongs_to, both_true, brings_piece, child_links, counts_process, destination, drop-length, enclosed_from, encloses, first_trails, first_trodden, goes_round, ids_at, is_due, is_made}
pub use Rattle.dm_law_rule.proofs.Names.{is_stale, is_unknown, is_waited_from, knowing, leads, leads_on, leads_to, left_true, manager_sends, next_is_new, numbers_from, receives_links, receiving_gets, released, sending_gets, sent_off}
pub use Rattle.dm_law_rule.proofs.Names.{slice_get_cases, slice_get_within, slot_after, token_in, trails_after, unmoved, why_ended-is, with_pair, with_ring}
pub use Rattle.dm_law_rule.proofs.Names.{IsAtRest, PairStands, Room, SentLoad, TellsRight, all_of, arrives, asks_on, at_least, at_rest, board_took, comes, comes_to, creation_parts, drop_parts, ended_handles, first_runnable, follows_by}
pub use Rattle.dm_law_rule.proofs.Names.{gone_after, has, has_mail, has_room, here_handles, is_quiet, kept_from, kernel_handles, less, let_go, lt-ltb, manager_parts, marked_at, next_step, outstanding_count, pair_window, process_handles}
pub use Rattle.dm_law_rule.proofs.Names.{repeats, resends, routes, says, seen_at, serves_some, takes_on, taking_parts, turns}
pub use Rattle.dm_law_rule.proofs.Once.{one_of-same}
pub use Rattle.dm_law_rule.proofs.Pairs.{Pairs, Pairs-always, Pairs-group, Pairs-start, acked_out_by, pair_home, pairs_stand_always}
pub use Rattle.dm_law_rule.proofs.Pairs.Comes.{less-left}
pub use Rattle.dm_law_rule.proofs.Pairs.Lines.{AllFit, line_view, onward, pair_same, taken_pair, touches}
pub use Rattle.dm_law_rule.proofs.Pairs.Lines.{AllFit-later, Fits, Onward, fitting_goes, one_view, says_view, transmits_view, two_views}
pub use Rattle.dm_law_rule.proofs.Pairs.Migrating.{calls_off_fit, migrates_fit}
pub use Rattle.dm_law_rule.proofs.Pairs.Moves.{Paired, at_least-more, off, off_has, or_first as or_second}
pub use Rattle.dm_law_rule.proofs.Pairs.Stand.{set_is, set_other}
pub use Rattle.dm_law_rule.proofs.Pairs.Stand.{Apart, KeptStands, set_same, two_of}
pub use Rattle.dm_law_rule.proofs.Pairs.Turns.{turns_fit}
pub use Rattle.dm_law_rule.proofs.Pairs.Turns.{resends_fit}
pub use Rattle.dm_law_rule.proofs.Phases.Always.{bury_away, ended_away, living_phase, phases_always, server_phase}
pub use Rattle.dm_law_rule.proofs.Phases.Answers.{Remains, stale_left}
pub use Rattle.dm_law_rule.proofs.Phases.Calm.{Calm, Plain, between_of, calm_about, calm_in, calm_same, other_than}
pub use Rattle.dm_law_rule.proofs.Phases.Ends.{is_gone, moves_there}
pub use Rattle.dm_law_rule.proofs.Phases.Hears.{plain_by}
pub use Rattle.dm_law_rule.proofs.Phases.Leaves.{fewer_record}
pub use Rattle.dm_law_rule.proofs.Phases.Lines.{dropped_spots, first_kept, forwarded_spots, handled_spots, held_spots, off_zero, packet_calm, put_calm, put_spots, queued_spots}
pub use Rattle.dm_law_rule.proofs.Phases.Lives.{nowhere_known}
pub use Rattle.dm_law_rule.proofs.Phases.Net.{migrates_quiet, net_parts, taken_calm}
pub use Rattle.dm_law_rule.proofs.Phases.Pieces.{and_false, record_off}
pub use Rattle.dm_law_rule.proofs.Phases.Put.{first_none, last_there, put_spot, put_there}
pub use Rattle.dm_law_rule.proofs.Phases.Quiet.{Tame, line_calm, parts_settle, plain_in_bag, received_spots, tame_kind}
pub use Rattle.dm_law_rule.proofs.Phases.Rests.{released_on}
pub use Rattle.dm_law_rule.proofs.Phases.Stand.{called_known, comes_known, held_plain, piece_ways, pull_ways, queued_plain}
pub use Rattle.dm_law_rule.proofs.Phases.Stand.{left_ways}
pub use Rattle.dm_law_rule.proofs.Phases.Start.{start_known}
pub use Rattle.dm_law_rule.proofs.QuietTests.{passes_quiet, quiet_passes, eq_is as test_same}
pub use Rattle.dm_law_rule.proofs.Requests.{by_test}
pub use Rattle.dm_law_rule.proofs.RestTests.{passes_rest, rest_passes}
pub use Rattle.dm_law_rule.proofs.Said.{fits_as}
pub use Rattle.dm_law_rule.proofs.Seen.{about_off}
pub use Rattle.dm_law_rule.proofs.Serving.{Loose, buries_kept, ends_kept, loose_handles, loose_round}
pub use Rattle.dm_law_rule.proofs.States.{PacketsKeep, PairsFit, said as last_point, packet_off, puts_next, said, says_next}
pub use Rattle.dm_law_rule.proofs.Telling.{plain_not}
pub use Rattle.dm_law_rule.proofs.Telling.{tells_right_always}
pub use Rattle.dm_law_rule.proofs.Trails.Along.{Carries, along_treads, trails_always_by}
pub use Rattle.dm_law_rule.proofs.Trails.Found.{treads_start}
pub use Rattle.dm_law_rule.proofs.Trails.Known.{get_at_end}
pub use Rattle.dm_law_rule.proofs.Trails.Labels.{ended_on, label_no_place}
pub use Rattle.dm_law_rule.proofs.Trails.Leads.{less_test, trail_leads}
pub use Rattle.dm_law_rule.proofs.Trails.Lines.{pid_there}
pub use Rattle.dm_law_rule.proofs.Trails.Puts.{migrate_from, migrate_to}
pub use Rattle.dm_law_rule.proofs.Trails.Steps.{holds_on, sent_on_at, set_off, two_apart}
pub use Rattle.dm_law_rule.proofs.Trails.Treads.{KnownFits, LabelFits, LineFits, PutFits, Treads, held_topic, line_treads, queued_topic, taken_topic}
pub use Rattle.dm_law_rule.proofs.Trails.Within.{HeadIn, TrailsIn, Within, forwarded_acting, held_acting, line_within, queued_acting}
pub use Rattle.dm_law_rule.proofs.Turns.{created_off, ended_off, serving_off}
pub use Rattle.dm_law_rule.proofs.Worked.{groups, hi}
pub use Rattle.dm_law_rule.specs.Acts.{Act}
pub use Rattle.dm_law_rule.specs.Addresses.{child_gets}
pub use Rattle.dm_law_rule.specs.Ends.{Stood, alive_lines, awaits, child_lines, doing_of, each_process, end_lines, first_with, holding_lines, homes_with, inbox_lines, link_lines, name_lines, pending_lines, process_lines, queue_at, queue_lines}
pub use Rattle.dm_law_rule.specs.Ends.{is_moved, place_line, sent_lines, stands_here}
pub use Rattle.dm_law_rule.specs.Ends.{server_lines, slot_line, standing_of, state_lines, stood, stood_at, stream_lines}
pub use Rattle.dm_law_rule.specs.Ends.{leading}
pub use Rattle.dm_law_rule.specs.Good.{IsKept, first_undelivered, undelivered}
pub use Rattle.dm_law_rule.specs.Migrating.{Size, size_of}
pub use Rattle.dm_law_rule.specs.Migrating.{answers_in, behind_among, by_known, holders_numbered, holders_of, slot_holders}
pub use Rattle.dm_law_rule.specs.Rule.{handles, landing_parts}
pub use Rattle.dm_law_rule.specs.Rule.{handles_here}
pub use Rattle.dm_law_rule.specs.View.{is_own}
pub use Rattle.dm_law_always.proofs.Based.Always.{based_always, based_group}
pub use Rattle.dm_law_always.proofs.Based.Groups.{Begins, begins, buries_here, group_keeps}
pub use Rattle.dm_law_always.proofs.Based.Loud.{Loud, SetLife, keeps_by, life_sort, some_alike, step_alike, step_creates, step_ends, step_serves}
pub use Rattle.dm_law_always.proofs.Based.Needs.{AllLoose, Needs, NeedsLabel, NeedsPart, Resting, Rides, Said, Steps, TellsEnd, Unborn, Walks, WalksOf, again_rides, begun, begun_sane, first_walks, is_over, loose_walks, said_by}
pub use Rattle.dm_law_always.proofs.Based.Queues.{told_kept, user_kind}
pub use Rattle.dm_law_always.proofs.Based.Rows.{handles_walks, living, resting, round_walks, turned, unborn}
pub use Rattle.dm_law_always.proofs.Based.Sets.{killed_or, set_all}
pub use Rattle.dm_law_always.proofs.Based.Unmoved.{dropped_moves, held_moves, queued_moves}
pub use Rattle.dm_law_always.proofs.Fits.Constants.{InOrder, step_constant}
pub use Rattle.dm_law_always.proofs.Fits.Rises.{both, set_at, set_if}
pub use Rattle.dm_law_always.proofs.Fits.Serves.{asked_noted, name_is}
pub use Rattle.dm_law_always.proofs.Fits.Start.{fits_step, start_fits}
pub use Rattle.dm_law_always.proofs.Found.Always.{FoundBy}
pub use Rattle.dm_law_always.proofs.Found.Core.{KnownIs, KnowsAt}
pub use Rattle.dm_law_always.proofs.Found.Forward.{forwarded_own, moves_back, named_for, other_id}
pub use Rattle.dm_law_always.proofs.Found.Groups.{queued_for, told_for, told_there}
pub use Rattle.dm_law_always.proofs.Found.Labels.{fixed_home}
pub use Rattle.dm_law_always.proofs.Found.Lists.{more_front}
pub use Rattle.dm_law_always.proofs.Found.Parts.{again_same, own_fresh, own_outside, plain_own}
pub use Rattle.dm_law_always.proofs.Found.Real.{made_free, named_real, or_cases}
pub use Rattle.dm_law_always.proofs.Goes.Always.{front, front_own, own_by, stands_first, told_of}
pub use Rattle.dm_law_always.proofs.Goes.Front.{here_free}
pub use Rattle.dm_law_always.proofs.Goes.Own.{apart_is, destination_knows, source_knows}
pub use Rattle.dm_law_always.proofs.Goes.Parts.{some_is}
pub use Rattle.dm_law_always.proofs.Goes.Runs.{Both, both_group, both_start}
pub use Rattle.dm_law_always.proofs.Goes.Serves.{first_is}
pub use Rattle.dm_law_always.proofs.Goes.Turns.{times_more, times_self}
pub use Rattle.dm_law_always.proofs.Names.{About, Addresses, Again, Alive, AllSayable, Answer, AskedBy, ToBoard, AtHome, BagStep, Bool, Boot, BootImage, BootProcess, Called, Child, Direction, Due, Enclosed, Ended, Forward, Frozen, Gets, Grown, Held}
pub use Rattle.dm_law_always.proofs.Names.{Here, Holder, InPhases, Inbox, Incoming, IsIn, IsLeft, IsNet, IsNetLine, IsPending, IsStep, IsValid, KernelFits, Known, KnownStands, Label, Leads, LeadsBy, LeftOver, Life, LifeGrows, Line, Links}
pub use Rattle.dm_law_always.proofs.Names.{List, Load, Manager, MessageKind, MoveNote, Moves, Moving, MsgId, Name, Named, NamedLink, None, NothingElse, Of, OneKernel, Option, Outcome, Outside, Owner, Owns, Pair, Part, Pending, PendingKind}
pub use Rattle.dm_law_always.proofs.Names.{Phase, Phased, Pid, Place, PlainLink, PlainMessage, PlainProcess, PlainStatus, PlainWhat, Point, Queue, Ready, ReceivedAt, Receiver, Reply, Rests, Rooted, Routes, SaidOn, Sane, Sayable, Says, Sender}
pub use Rattle.dm_law_always.proofs.Names.{Sends, ServerSends, Slot, Some, Sort, Sound, Spelled, Spot, Stage, StandsOutside, StandsRight, State, Step, Stops, Switchboard, Target, Token, Told, Transmits, TurnsBack, Unknown, Untaken, View}
pub use Rattle.dm_law_always.proofs.Names.{Waiting, WhatFits, Why, [], about_same, accepts, acting_place, after, after_head, after_line, after_put, after_step, agrees, aim, alive-is, all_follow, answer_id, answer_to, answers_move, ap, arith}
pub use Rattle.dm_law_always.proofs.Names.{arrives_net, ascends, at_home, at_machine, at_machine_at, at_pair, at_place, at_record, at_record_at, bag_answered, bag_call, bag_created, bag_dropped, bag_end, bag_gone, bag_no_space, bag_out}
pub use Rattle.dm_law_always.proofs.Names.{bag_ran, bag_receive, bag_refuse, bag_sends, bag_served, bag_took, bag_wait, behind, bind, bind-is, board_takes_lem, both_lists, both_times, buried, buries, bury_is, bury_over, by_calls_off}
pub use Rattle.dm_law_always.proofs.Names.{by_forwards, by_group, by_handles, by_hears, by_migrates, by_net, by_outcome, by_parts, by_round, by_step, call_off, called_parts, calls_off, calm_phases, came, cases_Bool, child_is, chunks_of}
pub use Rattle.dm_law_always.proofs.Names.{coming_is, counts, destination_expects, drop, dropped_known, due, due_or_left, ends_by, ends_move-is, ends_with, entry, eq_is, eq_self, false, false_from_ne_true, false≢true, filter, first_empty}
pub use Rattle.dm_law_always.proofs.Names.{first_failed, first_gives, first_life, first_number, first_off, first_point, first_told, first_view, forwarded_back, forwarded_for, forwarded_known, forwards, forwards_on, front_gone, front_kernels}
pub use Rattle.dm_law_always.proofs.Names.{front_of, front_one, front_way, gets, given, gives, gives_piece, goes_back, goes_between, goes_out, gone_to, group_is, group_of, grown_none, handled, handled_first, has_bytes, has_no_queue}
pub use Rattle.dm_law_always.proofs.Names.{has_nothing_held, head_calm, hears, held_for, held_known, hidden, holder_eq, homes_are, hushed, id_eq, id_eq-is, id_eq-same, id_of, if◌then◌else◌, in_bag, inl, inr, is_alive, is_away, is_behind}
pub use Rattle.dm_law_always.proofs.Names.{is_between, is_calloff, is_counted, is_early, is_fixed, is_here, is_kernels, is_kill, is_of_memory, is_piece, is_put, is_restart, is_server, is_some, is_told_back, kernel_after, kernel_hears}
pub use Rattle.dm_law_always.proofs.Names.{kernels_fresh, kind_comes, kind_leaves, known_at, knows, label_of, label_on, label_topic, labels, lands-is, leaves, leaves_for, left_parts, length, length-append, length-drop, length-take, letters}
pub use Rattle.dm_law_always.proofs.Names.{life_at, lines_of, link_at, link_target, machine_of, manager, manager_gets, manager_takes_lem, map, migrates, move_fits, move_target, moved, moves_away, nat_le, nat_lt, nat_tests, not, not_false}
pub use Rattle.dm_law_always.proofs.Names.{not_kernels, not_server, not_true, note-is, numbered_from, one_of, option_map, option_map_or, or_first, out_off, outcome, outcome_sayable, own_given, own_id, packet_line, pair_keeps, part_sane}
pub use Rattle.dm_law_always.proofs.Names.{parts, pending_of, phased_group, phased_start, pid_eq, pid_eq-is, pid_eq-same, pid_eq-swap, pid_of, piece_fits, pieces_of, place_told, plain_kind, plain_link, preds_of, process_told, proto_acting}
pub use Rattle.dm_law_always.proofs.Names.{proto_known, pulls_piece, put_at, put_told_off, puts, queued_known, receiver_in, receiver_of, reception, refl, rejoins, replay, resends_net, rests_here, right_true, rooted, sane_line, second, seen}
pub use Rattle.dm_law_always.proofs.Names.{seen_none, sender_in, sender_of, sends_on, sent_at, served_keeps, served_told, sets, slice_get, sort_of, source_holds, spelled, standing, stands_right, start, start-sound, status_awaits, stayed}
pub use Rattle.dm_law_always.proofs.Names.{subst, suc, switchboard, sym, take, taken_id, takes_block, takes_chunk, target_in, target_of, tells_asker, tells_between, tells_end, tells_onward, times, times-append, to_kernel, to_of, token_at}
pub use Rattle.dm_law_always.proofs.Names.{token_is, told_between, told_ended, told_here, told_some, told_step, topic_by, true, turn_off, under_way, untaken, updated, updates, view_after, with_label, with_note, with_process}
pub use Rattle.dm_law_always.proofs.Names.{with_sent, without_front, without_id, without_message, without_note, zero, ℕ, ⊤, ◌&&◌, ◌++◌, ◌+◌, ◌-◌, ◌/◌, ◌<◌, ◌==◌, ◌||◌, ◌∙◌, ◌∷◌, ◌≡◌, ◌≢◌, ◌≤◌, ◌⊎◌}
pub use Rattle.dm_law_always.proofs.Names.{IsRun, Next, Todo, acting_dropped, at_id, dropped_for, free_room, marked, not_is, oldest, rings, routed_on, slice_set, turns_here, ◌*◌}
pub use Rattle.dm_law_always.proofs.Own.Told.{is_place, own_sort}
pub use Rattle.dm_law_always.proofs.Queued.{IsQueued}
pub use Rattle.dm_law_always.proofs.RunLabels.{after_replay, group_replay, labels-append, replay-append}
pub use Rattle.dm_law_always.proofs.Runs.{Based, Run}
pub use Rattle.dm_law_always.proofs.RunsAlways.{run_always, run_group, run_start}
pub use Rattle.dm_law_always.proofs.RunsAlways.{found_always}
pub use Rattle.dm_law_always.specs.Found.{ListsStand}
pub use Rattle.dm_law_moves.specs.Asked.{AnsweredAlways, AnswersHaveCauses, FollowsWhileMoving, HasCause, IsCause, IsSaidOf, MovedIsSaid, asks_move}
pub use Rattle.dm_law_moves.specs.AtRest.{AllForgotten, AtRest, AtRestAlways, DropsAlways, IsAt, IsWaiting, is_moving}
pub use Rattle.dm_law_moves.specs.Counts.{CountsKept, CountsStay, gives_to, in_next, is_filled, is_owned, refilled}
pub use Rattle.dm_law_moves.specs.Ends.{EndsAlways, asks, count, ends, is_answer_by, is_answered_next, is_away_line, is_away_next, is_for, own_asks, own_ends}
pub use Rattle.dm_law_moves.specs.Forwards.{ForwardsTell, RequestsTell, Tells}
pub use Rattle.dm_law_moves.specs.LifeLines.{IsPlace, IsSaid, LivesAreSaid, life_lines, stands_by, tells_life}
pub use Rattle.dm_law_moves.specs.Links.{CountsPromise, IsThere}
pub use Rattle.dm_law_moves.specs.Lists.{IsFor, IsUserFor, ListsAlways, ListsForTheirs}
pub use Rattle.dm_law_moves.specs.Movers.{HasEnded, HasPiece, MoversHavePieces, answers_piece, asks_piece}
pub use Rattle.dm_law_moves.specs.Movers.{AnswersFor, AsksFor}
pub use Rattle.dm_law_moves.specs.Numbers.{IsBelow, NumbersAlways}
pub use Rattle.dm_law_moves.specs.Open.{AllOpen, IsAnothers, IsAnothersIf, IsSpared, OpenKeeps, OpenMoves, OpenSpares, OpenStays, is_open, mark_while, open_mark}
pub use Rattle.dm_law_moves.specs.Pending.{HasOne, IsOfPending, PendingAscends, PendingHasOne, answered_by, asked_by, is_pending, requests}
pub use Rattle.dm_law_moves.specs.Predecessors.{ByBury, ByCallOff, ByPreds, IsHeldBack, PredecessorsAlways, is_way_to}
pub use Rattle.dm_law_moves.specs.Promise.{IsUnderWay, Promised, PromisesAlways, Unfilled, fills, update_of}
pub use Rattle.dm_law_moves.specs.Protocol.{ProtocolMoves}
pub use Rattle.dm_law_moves.specs.Protocol.{IsOfMove}
pub use Rattle.dm_law_moves.specs.Real.{IsAboutReal, IsReal, Kernel, Made, RealAlways, Server}
pub use Rattle.dm_law_moves.specs.Requested.{AnswersAreSo, AnswersSo, Directive, IsAsked, IsDirected, IsNamedMachine, IsRefused, IsSo, MovesAsNamed, Request, starts, takes_in}
pub use Rattle.dm_law_moves.specs.Routed.{AreRouted, RoutedAlways, routed, with_put}
pub use Rattle.dm_law_moves.specs.ServerLines.{IsServerSaid, ServersAreSaid, lines_of_place, server_sent, tells_server}
pub use Rattle.dm_law_moves.specs.Stages.{Calling, Lacking, Mark, Reached, Staying, StepsInOrder, follows, in_order, left_open, mark_for, mark_in, marks, step_number, with_mark}
pub use Rattle.dm_law_moves.specs.Stales.{StalesAlways, calls, is_about, stales}
pub use Rattle.dm_law_moves.specs.Trail.{AddressesLead, ByForward, ByHolder, ByOwn, ByRequest, ByUpdate, IsLast, IsLed, IsNamed, Reaches, TrailStands, TrailsStand, ends_walk, has_it}
pub use Rattle.dm_law_moves.specs.Updates.{Updated, UpdatesAlways, is_owner, listings}
pub use Rattle.dm_law_moves.specs.Settles.Laws.{EndsAtRest, EndsQuiet, EndsRested, EndsResting, FewPuts, LeftFalls, PairsRestAlways, RestsAlways, SettlesAlways, TurnsFall, TurnsLeftFew}
pub use Rattle.dm_law_moves.specs.Settles.Left.{IsLess, Left, Messages, Numbers, Packets, Releases, left, lets_go, load_left, numbers_left, one_each, one_let_go, pair_left, told_lets_go, turns_left, weight, weight_of, weight_to, wire_left}
pub use Rattle.dm_law_moves.specs.Settles.Passes.{AreGoneThrough, IsRestStep, IsSettleStep, RestGoes, SettleGoes, ends_rested, ends_settled, is_at_rest, is_rest_directive, is_settle_directive, passes_left}
pub use Rattle.dm_law_moves.specs.Settles.Puts.{OnlyLight, SettlesBy, is_light, is_light_kind, says_put}
pub use Rattle.dm_law_moves.specs.Settles.Rests.{HasCome, HasPacket, PairRests}
pub use Rattle.dm_law_moves.specs.Settles.Stays.{BringsNothing, RestLasts, SaysNothing, StaysAtRest, StaysSo, delivery_brings, packet_brings}
pub use Rattle.dm_law_moves.specs.Settles.Still.{EndsStill, StandsStill, StillAlways, does_wait, is_mover, is_still, is_wait}
