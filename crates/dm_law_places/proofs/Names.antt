-- What the proofs of this crate name of what lies below it.
pub use Rattle.std.proofs.lemmas.List.Sums.{sum_by-cons}
pub use Rattle.std.specs.Option.{option_and_then}
unfoldable pub use Rattle.dm_processor.specs.Instructions.{instruction}
pub use Rattle.dm_linktable.proofs.Names.{slot_is_behind}
pub use Rattle.dm_linktable.proofs.Plain.{plain_map_retargeted}
pub use Rattle.dm_process.proofs.Names.{remove}
pub use Rattle.dm_linkupdate.proofs.Names.{applied, status_after}
pub use Rattle.dm_migrate.proofs.Names.{Asker, Message, Process, What, plain_message, plain_what, sent_on, with_what}
pub use Rattle.dm_migrate.specs.Asking.{asker_of, manager_request, moved_answer}
pub use Rattle.dm_onekernel.specs.Start.{memory_of}
pub use Rattle.dm_onekernel.specs.Step.{Machine, plain_steps}
pub use Rattle.dm_onekernel.specs.Switchboard.{goes_over}
pub use Rattle.dm_onekernel.specs.declared.boot.Format.{Format}
pub use Rattle.dm_switchboard.proofs.Imports.{Asked, Named, is_name, named_is_behind, plain_board, plain_named, retargeted_named}
pub use Rattle.dm_switchboard.proofs.Plain.{plain_answer, plain_asked, plain_asks, plain_reply}
pub use Rattle.dm_procman.proofs.Names.{ArrayVec, Managing, Taken, answer_over, at_home, child_address, child_at_home, child_named, control_link, count_by, kernel_at, message_to, pending_is_behind, pending_request, plain_child}
pub use Rattle.dm_procman.proofs.Names.{plain_manager, plain_pending, relocated, retargeted, retargeted_link, retargeted_manager, retargeted_pending, slice_get-map, without_pending}
pub use Rattle.dm_procman.proofs.Plain.{plain_bear, plain_numbered, plain_pending_numbered, plain_push, plain_without}
pub use Rattle.dm_procman.specs.Managing.{answer_is_behind}
pub use Rattle.dm_procman.specs.declared.pending.Pending.{Pending}
pub use Rattle.dm_law_one.proofs.Equal.{pid_eq-swap}
pub use Rattle.dm_law_one.proofs.Facts.{none_some}
pub use Rattle.dm_law_one.proofs.Names.{Switchboard}
pub use Rattle.dm_law_one.proofs.Servers.{note-is}
pub use Rattle.dm_datamove.proofs.Landings.{ends_plainly, goes_on_plainly}
pub use Rattle.dm_datamove.proofs.Names.{Landing, after_serving, answer, answer_of, answer_with, begun_process, gone_answer, landing, piece_of, plain_landed, serving_answer}
pub use Rattle.dm_datamove.specs.Requests.{address_of}
pub use Rattle.dm_datamove.specs.declared.Landed.{Landed}
pub use Rattle.dm_syscall.proofs.Completes.{status_plainly}
pub use Rattle.dm_syscall.proofs.Names.{Addr, Completion, Done, Rest, Status, User, call_number, calls, completes, completes_unless, completion, emptied, length-map, links_in, map-set, plain_called, plain_completed, plain_process}
pub use Rattle.dm_syscall.proofs.Names.{plain_slot, plain_status, what_is_on, written_at}
pub use Rattle.dm_syscall.proofs.PlainCalls.{call_plainly, first_of, slot_at}
pub use Rattle.dm_syscall.specs.declared.Called.{Called}
pub use Rattle.dm_syscall.specs.declared.Completed.{Completed}
pub use Rattle.dm_law_rule.proofs.Hearing.{IsHeardLine, Kept, calls_off_kept, hears_kept}
pub use Rattle.dm_law_rule.proofs.Homes.Calls.{gives_by, no_gives, or-left, or-right}
pub use Rattle.dm_law_rule.proofs.Homes.Lines.{first_none, own_none}
pub use Rattle.dm_law_rule.proofs.Homes.Manager.{enclosed_at}
pub use Rattle.dm_law_rule.proofs.Homes.Receives.{is_empty, only_receives, set_at, set_off}
pub use Rattle.dm_law_rule.proofs.Homes.Rows.{SameMessage, SameProcess, SameServers, encloses_at, encloses_message, encloses_process, encloses_servers}
pub use Rattle.dm_law_rule.proofs.Homes.Servers.{and-both, get_last, numbered_from}
pub use Rattle.dm_law_rule.proofs.Homes.Serves.{child_at, gone_lands, nothing_lands, only_child, some_is, two, two_off, two_process, two_servers}
pub use Rattle.dm_law_rule.proofs.Homes.Slots.{emptied_link, past_call, set_link}
pub use Rattle.dm_law_rule.proofs.Homes.Steps.{OnlySlots, gives_same, made_is, only_gives_by}
pub use Rattle.dm_law_rule.proofs.Letters.{not_kernels}
pub use Rattle.dm_law_rule.proofs.Names.{About, Addresses, Again, Alive, Answer, AskedBy, ToBoard, Bool, Boot, BootImage, BootProcess, CallNumber, Child, Direction, Enclosed, Ended, Fault, Forward, Frozen, Gets, Holder, Inbox, Incoming, IsStep, IsValid}
pub use Rattle.dm_law_rule.proofs.Names.{Known, Label, Leads, Life, Line, Link, List, Load, Manager, MessageKind, MoveNote, MsgId, Name, NamedLink, None, One, OneKernel, Option, Outcome, Owner, Owns, Pair, Part, PendingKind, Pid, Place}
pub use Rattle.dm_law_rule.proofs.Names.{PlainLink, PlainMessage, PlainProcess, PlainStatus, PlainWhat, Point, Receiver, Regs, Reply, Routes, Row, Says, Sender, SentLoad, Slot, Some, Sort, Sound, Spelled, Spot, Stage, Step, TellsRight, Told}
pub use Rattle.dm_law_rule.proofs.Names.{Transmits, View, Why, [], act_of, acting_place, addresses_by, after, after_head, after_label, after_line, after_step, all_follow, answer_gets, answer_id, answer_to, ap, arith, ascends, at_hand-is}
pub use Rattle.dm_law_rule.proofs.Names.{at_pid, behind, behind_count, belongs_to, bind, bind-is, board_finds, board_gets, board_keeps, buries, bytes_eq, call_gets, cases_Bool, child_links, child_number, code_of_outcome, cond, cons_option}
pub use Rattle.dm_law_rule.proofs.Names.{drop, enclosed_from, encloses, ends_move-is, ends_with, false, false≢true, fills, fills_by, filter, filter_map, first_addresses, first_empty, first_failed, first_gives, first_number, first_point}
pub use Rattle.dm_law_rule.proofs.Names.{first_view, forwarded_for, forwards, gets, given, gives, group_of, handled, id_eq, id_eq-is, id_eq-same, id_eq-swap, id_of, if◌then◌else◌, inl, inr, is_general, is_kernels, is_none, is_some}
pub use Rattle.dm_law_rule.proofs.Names.{is_told_back, kernel_after, label_of, landing_gets, leads_to, length, lines_of, link_at, link_target, links_at, manager, manager_answers, manager_gets, manager_sends, map, moved, nat_le, nat_lt}
pub use Rattle.dm_law_rule.proofs.Names.{nat_tests, not, on_mask, option_map, option_map_or, outcome, own_given, own_id, owner_in, past, pid_eq, pid_eq-is, pid_eq-same, pid_of, place_known, place_named, place_of, place_told, plain_kind}
pub use Rattle.dm_law_rule.proofs.Names.{plain_link, position_from, preds_of, puts, receiver_of, receives_links, receiving_gets, refl, reg, replicate, reply_eq, seen, sending_gets, serving_gets, slice_get, slice_set, slot_after, slots_of}
pub use Rattle.dm_law_rule.proofs.Names.{slots_with, sort_of, spelled, standing, start-sound, subst, suc, switchboard, sym, take, times, to_kernel, told_back_gets, true, unmoved, updated, updated_to, view_after, when-is, why_eq, zero, ℕ, ⊤}
pub use Rattle.dm_law_rule.proofs.Names.{◌&&◌, ◌++◌, ◌+◌, ◌-◌, ◌==◌, ◌||◌, ◌∙◌, ◌∷◌, ◌≡◌, ◌≤◌, ◌⊎◌}
pub use Rattle.dm_law_rule.proofs.Pairs.Moves.{or_first, or_first as or_second}
pub use Rattle.dm_law_rule.proofs.Requests.{by_migrates}
pub use Rattle.dm_law_rule.proofs.Worked.{hi}
pub use Rattle.dm_law_rule.specs.Addresses.{board_asks}
pub use Rattle.dm_law_rule.specs.Migrating.{answers_in, behind_among, holders_numbered, holders_of, slot_holders}
pub use Rattle.dm_law_rule.specs.View.{first_told, is_own}
pub use Rattle.dm_law_places.specs.Changes.{Changes, StepsChangeLittle, changed, is_named, receiver_in, taken, taken_out}
pub use Rattle.dm_law_places.specs.Following.{GroupNeeds, LineNeeds, MirrorsPoint, ServersApart, is_among, moved_on, once_more, sent_all}
pub use Rattle.dm_law_places.specs.Laws.{KeepsPlaces, LinesKeep, PointDetermines, StartMirrors, StepNeeds, StepsFollow}
pub use Rattle.dm_law_places.specs.Placed.{AnswerNames, Mirrors, MirrorsKernel, MirrorsMessage, MirrorsPlaces, MirrorsProcess, Placed, enclosed, owner_at, plain_note}
pub use Rattle.dm_law_places.specs.PlacedStart.{placed_start, started, started_at}
pub use Rattle.dm_law_places.specs.PlacedStep.{Acted, acted, acts, after_call, after_done, after_landing, answers, board_took, completed, creates, ends_move, if_ready, lands, machine_of, manager_took, placed_step, ran, running, serves, takes}
pub use Rattle.dm_law_places.specs.PlacedStep.{with_acted, with_child, with_machine, with_message, with_note, with_process, with_sent, without_message, without_note}
pub use Rattle.dm_law_rule.specs.Trails.{is_made, is_server}
