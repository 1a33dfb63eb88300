-- What the proofs of this crate name of what lies below it.
pub use Rattle.std.proofs.Common.{eq-eqb}
pub use Rattle.std.proofs.lemmas.List.{get_or-replicate, with_items_is}
pub use Rattle.std.proofs.lemmas.List.Elements.{All-get_or, All-rest}
pub use Rattle.std.proofs.lemmas.Option.{get_or_from_slice_get}
pub use Rattle.std.proofs.lemmas.Result.{on_ok_weaker}
pub use Rattle.std.specs.Result.{IsErrAnd}
pub use Rattle.std.specs.Vec.{with_items}
pub use Rattle.dm_migrate.specs.Rooms.{has_room_for}
pub use Rattle.dm_wire.proofs.Names.{Sent, leb_tells}
pub use Rattle.dm_stream.proofs.Names.{Ack, Data, Load, Receiving, Sending, append-nil, due, given_count, moved_up, next, outstanding, slice_get_within, window}
pub use Rattle.dm_stream.specs.Receiving.{after_arrival, after_next, arrival, fresh_receiving}
pub use Rattle.dm_stream.specs.Sending.{fresh_sending, numbered, with_acked, with_given, with_sent}
pub use Rattle.dm_stream.specs.declared.receiver.Arrived.{Arrived}
pub use Rattle.dm_stream.specs.declared.receiver.Arrived.TheVariants.{Early, Old, Taken}
pub use Rattle.dm_packet.proofs.Names.{IsRoute, get_or_past}
pub use Rattle.dm_packet.specs.declared.Packet.{Packet}
pub use Rattle.dm_linkupdate.proofs.Names.{Some}
pub use Rattle.dm_statebytes.proofs.Names.{OnOk, Result, append_assoc}
pub use Rattle.dm_migrate.proofs.Names.{nat_lt, restarted}
pub use Rattle.dm_switchboard.proofs.Imports.{None}
pub use Rattle.dm_syscall.proofs.Names.{All-drop}
pub use Rattle.dm_line.proofs.Names.{eqb_tells, ◌≢◌}
pub use Rattle.dm_line.specs.Sets.{at_machine}
pub use Rattle.dm_kernel.proofs.LawfulTurns.{asked_lawful, called_off_lawful, turn_lawful}
pub use Rattle.dm_kernel.proofs.Names.{All, All-append, All-cons, All-head, All-nil, All-push, All-tail, Arrival, Asker, Bool, Boot, BootImage, BootProcess, Called, Completed, Completion, Departure, Err, Forward, Frozen, Here}
pub use Rattle.dm_kernel.proofs.Names.{Incoming, IsLawfulMessage, IsLawfulPart, IsLawfulState, IsLawfulTurned, IsMachine, KernelKnown, KernelState, Landed, Landing, Line, Link, List, MeetsSome, Message, MoveError, Ok, Option, Pid}
pub use Rattle.dm_kernel.proofs.Names.{Process, Status, Turned, What, [], accepts, after_serving, answers_with, ap, arith, asks_manager, asks_move, before_turn, begins_process, bind, block_of, board_handles, board_took, called_with, calls}
pub use Rattle.dm_kernel.proofs.Names.{calls_arriving_off, calls_off, child_of, chunk_of, comes_from, completion, empty, ended_handles, false, first_on, first_runnable, forwards_and, frozen_of, gives_piece, goes_round, halts, handles}
pub use Rattle.dm_kernel.proofs.Names.{hears_piece, here_handles, if◌then◌else◌, images_are_valid, incoming_of, inl, inr, into_iter_items, is_not_called, is_some, is_told_back, is_whole, kernel_handles, kind_of, landing, lands, lands_as}
pub use Rattle.dm_kernel.proofs.Names.{leaves, length, makes, makes_of, manager, manager_handles, manager_took, moved_back, asks_to_move, own_id, pid_eq, process_handles, processor_of, ran, received, received_by, receives, refl, replicate}
pub use Rattle.dm_kernel.proofs.Names.{restarts, restarts_as, says_stale, serves, serves_status, serving_answer, slice_get, state_of, stays, subst, suc, switchboard, sym, takes_piece, told_board, told_manager, told_to_move, preceded}
pub use Rattle.dm_kernel.proofs.Names.{Board, Managing, Resident, bare, manager_in, migrates, name_of, resident_handles, with_servers}
pub use Rattle.dm_kernel.proofs.Names.{took_piece, true, turn, turns_back, with_all, with_child, with_here, with_machine, with_piece, zero, ℕ, ⊤, ◌*◌, ◌++◌, ◌+◌, ◌-◌, ◌<◌, ◌==◌, ◌∙◌, ◌∷◌, ◌≡◌, ◌≤◌}
pub use Rattle.dm_kernel.specs.Carried.{FreezesWhole}
pub use Rattle.dm_kernel.specs.Handle.{has_room}
pub use Rattle.dm_kernel.specs.Idle.{KnowsIdle}
pub use Rattle.dm_kernel.specs.declared.kernel.Kernel.{Kernel}
pub use Rattle.dm_kernel.specs.declared.part.Part.{Part}
pub use Rattle.dm_kernel.specs.declared.run.Halt.{Halt}
pub use Rattle.dm_node.specs.Acts.{acknowledges, acts, again, all_out, arrives, arrives_packet, before, comes, comes_in, count_out, counts_out, first_out, gives, is_worn, lets_next, none_waits, put_line, routes, routes_away, routes_home}
pub use Rattle.dm_node.specs.Acts.{sends_due, takes_next, then_acknowledges, tick, turns}
unfoldable pub use Rattle.dm_node.specs.Acts.{lets_go, takes_kept}
pub use Rattle.dm_node.specs.Contents.{packet_in}
pub use Rattle.dm_node.specs.Lawful.{ActsLawfully, IsLawfulOut}
pub use Rattle.dm_node.specs.May.{MayAct, MayArrive, MayArrivePacket, MayAskMove, MayCallOff, MayTurn}
pub use Rattle.dm_node.specs.Meets.{Answers, AnswersSome, Gave, GaveActs, HasStreams, OrNoMemory, node_state, receiver_at, sender_at}
pub use Rattle.dm_node.specs.Out.{Acted, Acts, Goes, Worn, behind, then_}
pub use Rattle.dm_node.specs.Wired.{AreReadBack, Spoke, Spoken, packet_line, says, so_far, spoken, spoken_then, with_packet}
pub use Rattle.dm_node.specs.State.{NodeState, here, node_opened, with_message, with_receiver, with_sender}
pub use Rattle.dm_node.specs.declared.node.Node.{Node}
pub use Rattle.dm_node.specs.declared.out.Out.{Out}
pub use Rattle.dm_node.specs.declared.out.Out.TheVariants.{Says, Sends}
pub use Rattle.dm_node.specs.declared.stop.Stop.{Stop}
