-- What the proofs of this crate name of what lies below it.
pub use Rattle.std.proofs.Math.ListN.{get_or-map}
pub use Rattle.std.proofs.Math.Seq.{drop-cons}
pub use Rattle.std.proofs.lemmas.List.{map-set}
pub use Rattle.std.proofs.lemmas.List.Elements.{All-append, All-drop, All-set, All-take}
pub use Rattle.std.specs.List.{cons_option, count_by, position_or_len}
pub use Rattle.std.specs.Option.{IfSome}
pub use Rattle.dm_link.specs.Lawful.{IsLawfulEnclosed}
pub use Rattle.dm_link.specs.Plain.{PlainLink, plain_link}
pub use Rattle.dm_link.specs.declared.Kind.TheVariants.{General}
pub use Rattle.dm_processor.proofs.Names.{Bool, List, None, Some, [], ap, arith, common_steps, drop, false, get_or, length, length-set, nat_tests, refl, set, suc, sym, take, true, zero, ℕ, ◌++◌, ◌+◌, ◌<◌, ◌∙◌, ◌∷◌, ◌≡◌, ◌≤◌}
pub use Rattle.dm_processor.specs.declared.registers.Regs.{Regs}
pub use Rattle.dm_message.specs.Plain.{User}
pub use Rattle.dm_linktable.proofs.Names.{Link, first_empty, is_none, length-map, link_at, map, pid_eq, plain_slot, ◌&&◌, ◌==◌}
pub use Rattle.dm_linktable.proofs.ReceiverOrder.{pid_eq_self}
pub use Rattle.dm_process.proofs.Names.{Message, add-one, slice_get}
pub use Rattle.dm_process.specs.Directions.{direction_numbered}
pub use Rattle.dm_process.specs.Mail.{on_mask, what_is_on}
pub use Rattle.dm_onekernel.specs.Calls.{CallNumber, Copy, Drop, Exit, Make, Move, Out, Receive, Send, Unknown, any_empty, call_number, holds_reply, is_among, is_outside, is_reply, make_refusals, move_refusals, reply_named_twice}
pub use Rattle.dm_onekernel.specs.Calls.{send_refusals, without_replies}
pub use Rattle.dm_onekernel.specs.Codes.{reply_code}
pub use Rattle.dm_onekernel.specs.PlainProcess.{PlainProcess, Ready, reg, setting}
pub use Rattle.dm_onekernel.specs.Receiving.{receive_refusals, received_regs}
pub use Rattle.dm_onekernel.specs.Refusals.{first_failed}
pub use Rattle.dm_datamove.proofs.Landings.{IsLawfulLanding, asks_lawfully}
pub use Rattle.dm_datamove.proofs.Names.{Addr, All, All-cons, All-nil, Direction, IsLawfulMessage, IsLawfulProcess, IsLawfulStatus, IsLawfulWhat, IsRest, MsgId, Option, PlainMessage, Process, Reply, SlotIsLawful, Status, What, asks, bind}
pub use Rattle.dm_datamove.proofs.Names.{if◌then◌else◌, plain_message, plain_process, plain_status, written_at}
pub use Rattle.dm_datamove.proofs.Services.{length-written}
pub use Rattle.dm_datamove.specs.declared.Rest.{Rest}
pub use Rattle.dm_syscall.specs.Calls.{Done, after_send, begins, calls, copies, does_call, drops, listed, makes, message_over, moves, moves_bytes, moves_over, own_link, puts_link, replied, sends, unless_refused, waits, whole}
pub use Rattle.dm_syscall.specs.Completing.{Completion, IsAwaited, Placed, completes, completes_unless, completion, place_into, place_links, plain_completed, receives, refusal}
pub use Rattle.dm_syscall.specs.Plainly.{IsLawfulCalled, plain_called}
pub use Rattle.dm_syscall.specs.Sends.{emptied, links_in}
pub use Rattle.dm_syscall.specs.declared.Called.{Called}
pub use Rattle.dm_syscall.specs.declared.Completed.{Completed}
