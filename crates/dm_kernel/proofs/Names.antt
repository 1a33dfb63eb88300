-- What the proofs of this crate name of what lies below it.
pub use Rattle.std.proofs.Common.{IfErr, IsOk, MatchResult, append-nil}
pub use Rattle.std.proofs.Math.Seq.{set-append_seam}
pub use Rattle.std.proofs.lemmas.Bool.{and_parts}
pub use Rattle.std.proofs.lemmas.Fn.{filter_same}
pub use Rattle.std.proofs.lemmas.List.{take_more}
pub use Rattle.std.proofs.lemmas.List.Elements.{All-filter, All-head, All-tail}
pub use Rattle.std.proofs.lemmas.Option.{slice_get_read}
pub use Rattle.std.specs.Option.{option_copied, option_copied_mut}
pub use Rattle.std.specs.Prelude.{Vec, fold, option_and_then, ⊤}
pub use Rattle.std.specs.declared.alloc.Global.{Global}
pub use Rattle.dm_link.specs.Names.{pid_of}
pub use Rattle.dm_records.proofs.Names.{filter, get, has, pred_at, range_with_len}
unfoldable pub use Rattle.dm_records.specs.Machines.{machines_with}
pub use Rattle.dm_records.specs.Records.{frozen_of, here_of, incoming_of, known_in, with_pred, with_record, without_preds, without_record}
unfoldable pub use Rattle.dm_records.specs.Records.{HasPlace, at}
pub use Rattle.dm_records.specs.declared.record.Record.{Record}
pub use Rattle.dm_records.specs.declared.record.Record.TheVariants.{Forward, Frozen, Here, Incoming}
pub use Rattle.dm_records.specs.declared.records.Place.{Place}
pub use Rattle.dm_records.specs.declared.records.Records.{Records}
pub use Rattle.dm_processor.proofs.Lengths.{instruction-lengths}
pub use Rattle.dm_processor.proofs.Names.{KeepsLengths, Row}
pub use Rattle.dm_processor.specs.Instructions.{DoesRow}
unfoldable pub use Rattle.dm_processor.specs.Instructions.{instruction}
pub use Rattle.dm_room.proofs.Names.{HasTaken}
pub use Rattle.dm_room.specs.Room.{Taken, free_blocks, free_slots, has_room, with_released, with_reserved}
pub use Rattle.dm_message.specs.Ids.{id_of}
pub use Rattle.dm_message.specs.Lawful.{IsServer}
pub use Rattle.dm_linktable.proofs.Names.{cond, pid_cmp}
pub use Rattle.dm_linktable.proofs.ReceiverOrder.{pid_eq_same}
pub use Rattle.dm_schedule.proofs.Names.{not}
pub use Rattle.dm_process.proofs.Names.{first_on, is_on, remove, without_first_on}
pub use Rattle.dm_process.specs.Process.{is_runnable}
pub use Rattle.dm_process.specs.Service.{IsServiceOf, Takes}
pub use Rattle.dm_process.specs.declared.process.Service.{Service}
pub use Rattle.dm_process.specs.declared.process.Service.TheVariants.{Execute}
pub use Rattle.dm_linkupdate.proofs.Lawful.{applied_lawful}
pub use Rattle.dm_linkupdate.specs.Notice.{is_told_back, update_of}
pub use Rattle.dm_statebytes.proofs.Names.{OnOk, Ready, append_assoc}
unfoldable pub use Rattle.dm_statebytes.specs.Shell.{registers, shell_of_bytes, shell_spelling}
pub use Rattle.dm_migrate.proofs.Messages.{lawful_all, queue_lawful}
pub use Rattle.dm_migrate.proofs.Names.{All, All-append, All-cons, All-map, Arrival, Asker, Departure, Err, HasChunk, IfOk, IsLawfulMessage, IsLawfulProcess, IsLawfulStatus, IsMachine, List, Message, None, Ok, Process, Result, Some, What}
pub use Rattle.dm_migrate.proofs.Names.{[], block_of, chunk_bytes, chunk_of, common_steps, drop, get_or, if◌then◌else◌, into_iter_items, length, length-drop, length-take, map, min, nat_tests, pull, replicate, sent_on, set, state_of, take}
pub use Rattle.dm_migrate.proofs.Names.{with_chunk, with_piece, ◌*◌, ◌++◌, ◌+◌, ◌-◌, ◌/◌, ◌∷◌, ◌≤◌, ◌⊎◌}
pub use Rattle.dm_migrate.specs.Arrival.{all_sent_back, comes_from, expected, is_whole, with_block, with_held as with_held_too}
pub use Rattle.dm_migrate.specs.Asking.{asker_of, moved_answer}
pub use Rattle.dm_migrate.specs.Departure.{all_sent_on, ask_of, frozen, with_held}
pub use Rattle.dm_migrate.specs.declared.arriving.Wanted.{Wanted}
pub use Rattle.dm_migrate.specs.declared.arriving.Wanted.TheVariants.{Block, Chunk, Nothing}
pub use Rattle.dm_onekernel.specs.Boot.{blocks_at, blocks_of_image, controls_child, image_is_valid, images_are_valid, leads_somewhere, leads_to_process, leads_to_server, link_is_valid, links_are_valid, machine_is_valid, machines_are_valid}
pub use Rattle.dm_onekernel.specs.Boot.{memory_size, process_named, slots_of}
pub use Rattle.dm_onekernel.specs.Start.{memory_of, slots_with}
pub use Rattle.dm_onekernel.specs.Step.{Machine}
pub use Rattle.dm_onekernel.specs.declared.boot.BootImage.{BootImage}
pub use Rattle.dm_onekernel.specs.declared.boot.BootMachine.{BootMachine}
pub use Rattle.dm_onekernel.specs.declared.boot.Format.{Format}
pub use Rattle.dm_onekernel.specs.declared.boot.Format.TheVariants.{One, Two}
pub use Rattle.dm_onekernel.specs.declared.label.Why.{Why}
pub use Rattle.dm_switchboard.proofs.Imports.{Board, IsLawfulBoard, IsLawfulNamed, is_some}
pub use Rattle.dm_switchboard.proofs.Lawful.{answer_after, board_after}
pub use Rattle.dm_procman.proofs.Hearing.{heard}
pub use Rattle.dm_procman.proofs.Lawful.{manager_after, message_after, moves_lawful, started_lawful}
pub use Rattle.dm_procman.proofs.Names.{All-push, Boot, BootProcess, IsForManager, IsLawfulAddr, IsLawfulManager, IsSome, IsValid, Managing, NoMemory, Outcome, kernel_at, manager, asks_to_move, process_is_valid, processes_are_valid, rules, starting, starting_at}
pub use Rattle.dm_procman.proofs.Names.{switchboard, ◌||◌}
pub use Rattle.dm_procman.specs.declared.moving.MoveError.{MoveError}
pub use Rattle.dm_datamove.proofs.Landings.{lands_lawfully}
pub use Rattle.dm_datamove.proofs.Names.{IsAwaited, IsLawfulLanded, IsWithin, Landing, Pid, after_serving, answer, gone_answer, is_answer, kind_of, landing, nat_le, serving_answer}
pub use Rattle.dm_datamove.proofs.Services.{answers_lawfully, serves_lawfully}
pub use Rattle.dm_datamove.specs.Serving.{gone_what}
pub use Rattle.dm_datamove.specs.declared.Landed.{Landed}
pub use Rattle.dm_syscall.proofs.Completes.{completes_lawfully}
pub use Rattle.dm_syscall.proofs.LawfulCalls.{IsLawfulDone, call_lawfully}
pub use Rattle.dm_syscall.proofs.Names.{Addr, All-nil, CallNumber, Completion, Copy, Direction, Done, Drop, Exit, General, IfSome, IsLawfulCalled, IsLawfulEnclosed, IsLawfulLanding, IsLawfulWhat, Link, Make, Move, MsgId, Option, Out}
pub use Rattle.dm_syscall.proofs.Names.{Receive, Regs, Reply, Send, SlotIsLawful, Status, Unknown, add-one, after_send, begins, bind, call_number, calls, completes, completes_unless, completion, copies, direction_numbered, does_call}
pub use Rattle.dm_syscall.proofs.Names.{drop-cons, first_empty, first_failed, is_none, is_outside, is_reply, length-map, link_at, make_refusals, message_over, move_refusals, moves, moves_bytes, moves_over, own_link, pid_eq, pid_eq_self}
pub use Rattle.dm_syscall.proofs.Names.{plain_link, plain_process, position_or_len, puts_link, receive_refusals, refusal, reg, replied, send_refusals, sends, slice_get, unless_refused, waits, whole, ◌==◌}
pub use Rattle.dm_syscall.specs.declared.Called.{Called}
pub use Rattle.dm_syscall.specs.declared.Completed.{Completed}
pub use Rattle.dm_line.proofs.Names.{Bool, ap, arith, false, inl, inr, refl, subst, suc, sym, true, zero, ℕ, ◌&&◌, ◌<◌, ◌∙◌, ◌≡◌}
pub use Rattle.dm_line.specs.Sets.{moved_back, without}
pub use Rattle.dm_line.specs.declared.line.Line.{Line}
pub use Rattle.dm_kernel.proofs.All.{with_all}
pub use Rattle.dm_kernel.specs.Asking.{asks_manager, asks_move, told_to_move}
pub use Rattle.dm_kernel.specs.Begun.{bare, begins_process, empty, opened, room_of, with_child, with_servers}
pub use Rattle.dm_onekernel.specs.Child.{child_of}
pub use Rattle.dm_kernel.specs.Burying.{after_end, buries, ends_with, hears_bury, preds_of, with_told}
pub use Rattle.dm_kernel.specs.Coming.{accepts, answers_ask, calling_off, calls_arriving_off, calls_off, hears_piece, holds_arriving, if_expected, is_expected, is_not_called, restarts, restarts_as, says_stale, takes_piece, piece_lines}
pub use Rattle.dm_kernel.specs.Coming.{took_piece, turns_back, without_arriving}
pub use Rattle.dm_kernel.specs.Departing.{asked_to_move, freezes, freezing, gives_piece, holds_leaving, leaves, migrates, stays, tells_asker, tells_of, with_frozen}
pub use Rattle.dm_kernel.specs.Following.{board_follows, forwards, forwards_and, manager_follows, process_follows}
pub use Rattle.dm_kernel.specs.Handle.{answers_with, board_handles, board_took, ended_handles, handles, here_handles, kernel_handles, lands, lands_as, makes, makes_of, manager_handles, manager_took, next_pid, process_handles, routes, resident_handles}
pub use Rattle.dm_kernel.specs.Handle.{told_board, told_manager}
pub use Rattle.dm_kernel.specs.Idle.{AreIdle, KnowsIdle}
pub use Rattle.dm_kernel.specs.Lawful.{AreLawful, IsLawfulArrival, IsLawfulAsker, IsLawfulDeparture, IsLawfulKnown, IsLawfulPart, IsLawfulRoom, IsLawfulState, IsLawfulTurned}
pub use Rattle.dm_kernel.specs.May.{CanTellAll, FitsEnded, FitsBoard, FitsHere, FitsKernel, FitsKnown, FitsManager, FrontMay, IsSuch, MayAct, MayHandle, MayRestart, MayTurn, most, FitsResident, MayFreeze}
pub use Rattle.dm_kernel.specs.Meets.{Answers, IsIn, Meets, MeetsSome, kernel_state}
pub use Rattle.dm_kernel.specs.Serve.{Ran, after_row, called_with, completed_label, does, ends, executes, halts, one_more, processor_of, ran, received, received_by, receives, serves, serves_status, with_machine}
pub use Rattle.dm_kernel.specs.Served.{Executes, IsHere, Receives, Serves}
pub use Rattle.dm_kernel.specs.State.{KernelKnown, KernelState, Turned, before_turn, blocks_of, drops, forgets, own, own_id, preceded, says, turned, with_here, with_known, with_sent, without_process, board_in, manager_in, process_in, ring_with}
pub use Rattle.dm_kernel.specs.Turn.{first_runnable, goes_round, known_is_runnable, turn, turns}
pub use Rattle.dm_kernel.specs.declared.kernel.Kernel.{Kernel}
pub use Rattle.dm_kernel.specs.declared.part.Part.{Part}
pub use Rattle.dm_kernel.specs.declared.part.Part.TheVariants.{Routes, Says}
pub use Rattle.dm_kernel.specs.declared.run.Halt.{Halt}
pub use Rattle.dm_resident.specs.Lawful.{HasFewAddresses, IsLawfulResident}
pub use Rattle.dm_resident.specs.Residents.{board_of, manager_of, moves_of, name_of, process_of, queue_of}
pub use Rattle.dm_resident.specs.declared.Resident.{Resident}
pub use Rattle.dm_migrate.specs.Departure.{CanMove, IsNamed}
pub use Rattle.dm_migrate.specs.Rooms.{HasTakenBy, has_room_for, room_with, room_without}
