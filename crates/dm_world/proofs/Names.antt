-- What the proofs of this crate name of what lies below it.
pub use Rattle.std.proofs.Common.{get_or-set_other, get_or-set_same, length-set, mul-suc}
pub use Rattle.std.proofs.Math.Seq.{get_or-append_seam, take-suc}
pub use Rattle.std.proofs.lemmas.Iterator.Adapters.{position_from-zero}
pub use Rattle.std.proofs.lemmas.List.{drop_all}
pub use Rattle.std.proofs.lemmas.List.Elements.{All-weaker}
pub use Rattle.std.proofs.lemmas.Option.{slice_get-get_or, slice_get_cases, slice_get_past}
pub use Rattle.std.specs.List.{position_from}
pub use Rattle.std.specs.Option.{unwrap_or}
pub use Rattle.std.specs.Prelude.{is_some}
pub use Rattle.dm_records.proofs.Names.{get, is_at}
pub use Rattle.dm_processor.proofs.Names.{drop-append-le, drop-cons, get_or_append_left}
pub use Rattle.dm_wire.proofs.Names.{Sent, is_unseen, just_put, marked}
pub use Rattle.dm_wire.specs.Sent.{bytes_at}
pub use Rattle.dm_wire.specs.Wire.{after_mark, is_pair, packets_on}
pub use Rattle.dm_linktable.proofs.Names.{pid_cmp}
pub use Rattle.dm_packet.proofs.Names.{cond, drop_at, leb-true, option_map, packet_of}
pub use Rattle.dm_schedule.specs.declared.Directive.{Directive}
pub use Rattle.dm_schedule.specs.declared.Step.{Step}
pub use Rattle.dm_statebytes.proofs.Names.{PacketError, ◌^◌}
pub use Rattle.dm_migrate.proofs.Names.{length-append, slice_index_or}
pub use Rattle.dm_onekernel.specs.Boot.{first_number, manager, switchboard}
pub use Rattle.dm_kernel.specs.State.{manager_in}
pub use Rattle.dm_switchboard.proofs.Imports.{Named}
pub use Rattle.dm_procman.proofs.Names.{option_map_or, position}
pub use Rattle.dm_syscall.proofs.Names.{set}
pub use Rattle.dm_line.proofs.Below.{fails_at}
pub use Rattle.dm_line.proofs.Deliveries.{here_or_later}
pub use Rattle.dm_line.proofs.Names.{all_below, false≢true}
pub use Rattle.dm_line.specs.Each.{sum_below}
pub use Rattle.dm_line.specs.Ends.{before_zeros, block_line, home_with, joined_below, list_line, memory_lines, trimmed}
pub use Rattle.dm_line.specs.Todo.{Next, Seen, Todo, Two, at_rest, begin_pass, below, in_pass, is_over, next_delivery, next_directive, next_pass, next_turn, or, pairs_of, pairs_with, settles, takes_turn}
pub use Rattle.dm_line.specs.declared.end_line.EndLine.{EndLine}
pub use Rattle.dm_line.specs.declared.pass.Pass.{Pass}
pub use Rattle.dm_line.specs.declared.pass.Pass.TheVariants.{Rest, Round, Settle}
pub use Rattle.dm_kernel.proofs.Names.{Global, IsLawfulNamed, IsSome, IsValid, MsgId, Vec, Why, common_steps, drop, get_or, link_at, map, nat_tests, not, pid_of, rules, take, ◌&&◌, ◌||◌, ◌⊎◌}
pub use Rattle.dm_node.proofs.Here.{opened_here}
pub use Rattle.dm_node.proofs.Names.{Ack, Acted, Acts, ActsLawfully, All, All-head, All-tail, AnswersSome, Bool, Boot, Data, Err, FreezesWhole, Gave, Goes, HasStreams, IsLawfulOut, IsLawfulState, Line, Link, List, Load, MayAct, MayArrive}
pub use Rattle.dm_node.proofs.Names.{MayArrivePacket, MayAskMove, MayCallOff, MayTurn, Message, NodeState, None, Ok, Option, Packet, Pid, Result, Some, Worn, [], ap, append-nil, append_assoc, arith, arrives_packet, at_machine, eqb_tells}
pub use Rattle.dm_node.proofs.Names.{false, get_or_from_slice_get, here, if◌then◌else◌, images_are_valid, inl, inr, leb_tells, length, node_opened, node_state, on_ok_weaker, pid_eq, refl, slice_get, slice_get_within, subst, suc, sym, tick, true}
pub use Rattle.dm_node.proofs.Names.{with_items, with_items_is, zero, ℕ, ⊤, ◌*◌, ◌++◌, ◌+◌, ◌-◌, ◌<◌, ◌==◌, ◌∙◌, ◌∷◌, ◌≡◌, ◌≢◌, ◌≤◌}
pub use Rattle.dm_node.proofs.Sends.{arrives_lawfully, asks_lawfully, calls_off_lawfully, ticks_lawfully, turns_lawfully}
pub use Rattle.dm_node.specs.Acts.{asks_move, calls_off, turn}
pub use Rattle.dm_node.specs.Lawful.{IsFrom}
pub use Rattle.dm_node.specs.Meets.{IsWornSome, OrNoMemory}
pub use Rattle.dm_node.specs.Wired.{Spoke, Spoken, so_far, spoken, with_packet}
pub use Rattle.dm_node.specs.declared.node.Node.{Node}
pub use Rattle.dm_node.specs.declared.out.Out.{Out}
pub use Rattle.dm_node.specs.declared.out.Out.TheVariants.{Sends}
pub use Rattle.dm_node.specs.declared.stop.Stop.{Stop}
pub use Rattle.dm_world.specs.Cursor.{Falls, FirstIs, FirstTurnIs, InPassIs, IsFresh, LeavesFewer, LeavesNoMore, NextIs, NextPassIs, RoundGoes, SettleGoes, TakesTurn, as_next, found_at, machines_left, pairs_left, room_of, row_at}
pub use Rattle.dm_world.specs.Cursor.{seen_count, todo_at, turn_at, turns_at, turns_of, found}
unfoldable pub use Rattle.dm_world.specs.Cursor.{pairs_at, room}
pub use Rattle.dm_world.specs.Ends.{SaysSome, awaited_kept, awaited_lines, child_lines, first_awaited, first_had, first_says, held_line, held_lines, homes_with, lines_in, link_lines, name_lines, names_of, pending_lines, process_lines, queue_of, record_lines}
pub use Rattle.dm_world.specs.Ends.{record_kept, record_queue, slot_line, stream_line}
pub use Rattle.dm_world.specs.Local.{ActsAlone, acts_on, bytes_of}
pub use Rattle.dm_world.specs.May.{MayAskAt, MayDeliver, MayRead, MayStep, sent_by}
pub use Rattle.dm_world.specs.Meets.{ActedAt, ActedSome, Answers, AreNodes, IsNode, IsWorld, IsWornOut, Meets, MeetsSome, TurnAnswers, world_state}
unfoldable pub use Rattle.dm_world.specs.Meets.{ended_in, node_in}
pub use Rattle.dm_world.specs.Next.{all_heard, first_unseen, world_has_mail, world_is_quiet, world_next_step, world_seen, world_serves, world_undelivered}
pub use Rattle.dm_world.specs.Readable.{AreReadBack, gave_bytes, gave_read, gave_some}
pub use Rattle.dm_world.specs.World.{Happened, Said, Says, WorldState, WornOut, acted, arrives, asks_at, delivers, keeps_over, over_in, reads, seat_of, turned, with_over, world_step}
pub use Rattle.dm_world.specs.declared.cursor.Cursor.{Cursor}
pub use Rattle.dm_world.specs.declared.cursor.Cursor.TheVariants.{One, Passing}
pub use Rattle.dm_world.specs.declared.cursor.Place.{Place}
pub use Rattle.dm_world.specs.declared.cursor.Place.TheVariants.{End, Packets, Turns}
pub use Rattle.dm_world.specs.declared.world.World.{World}
