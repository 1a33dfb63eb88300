-- What the proofs of this crate name of what lies below it.
pub use Rattle.arrayvec.specs.ArrayVec.{ArrayVec}
pub use Rattle.std.proofs.Common.{Bool, List, None, Some, [], ap, arith, count_by, drop, false, get_or, if◌then◌else◌, length, map, nat_le, nat_lt, position, refl, rules, set, slice_get, subst, suc, sym, take, true, zero, ℕ, ◌&&◌, ◌*◌}
pub use Rattle.std.proofs.Common.{◌++◌, ◌+◌, ◌<◌, ◌==◌, ◌||◌, ◌∙◌, ◌∷◌, ◌≡◌, ◌≤◌}
pub use Rattle.std.proofs.Math.Seq.{take-append_seam}
pub use Rattle.std.proofs.lemmas.Grind.{common_steps}
pub use Rattle.std.proofs.lemmas.List.{length-map}
pub use Rattle.std.proofs.lemmas.List.Elements.{All-map, All-push}
pub use Rattle.std.proofs.lemmas.List.Quantifiers.{position-Some}
pub use Rattle.std.proofs.lemmas.Option.{slice_get-map}
pub use Rattle.std.specs.List.{All, remove}
pub use Rattle.std.specs.Option.{IfSome, option_map, option_or, option_map_or}
pub use Rattle.std.specs.Prelude.{IfOk, IsSome, OnErr}
pub use Rattle.std.specs.declared.option.Option.{Option}
pub use Rattle.std.specs.declared.result.Result.{Result}
pub use Rattle.std.specs.declared.result.Result.TheVariants.{Err, Ok}
pub use Rattle.dm_memory.specs.declared.NoMemory.{NoMemory}
pub use Rattle.dm_link.specs.Lawful.{IsLawfulAddr, IsLawfulEnclosed, IsMachine}
pub use Rattle.dm_link.specs.Names.{pid_eq}
pub use Rattle.dm_link.specs.Places.{is_behind, kernel_at, relocated, retargeted, retargeted_link}
pub use Rattle.dm_link.specs.Plain.{PlainLink, plain_link}
pub use Rattle.dm_link.specs.declared.Addr.{Addr}
pub use Rattle.dm_link.specs.declared.Link.{Link}
pub use Rattle.dm_link.specs.declared.Pid.{Pid}
pub use Rattle.dm_message.specs.Kinds.{kind_of}
pub use Rattle.dm_message.specs.Lawful.{IsLawfulMessage, IsLawfulWhat, is_answer}
pub use Rattle.dm_message.specs.Outcomes.{code_of_outcome}
pub use Rattle.dm_message.specs.Plain.{plain_message, plain_what, with_what}
pub use Rattle.dm_message.specs.declared.Message.{Message}
pub use Rattle.dm_message.specs.declared.MsgId.{MsgId}
pub use Rattle.dm_message.specs.declared.Outcome.{Outcome}
pub use Rattle.dm_message.specs.declared.What.{What}
pub use Rattle.dm_onekernel.specs.Boot.{IsValid, manager, process_is_valid, processes_are_valid, starting_at, switchboard}
pub use Rattle.dm_onekernel.specs.declared.boot.Boot.{Boot}
pub use Rattle.dm_onekernel.specs.declared.boot.BootProcess.{BootProcess}
pub use Rattle.dm_onekernel.specs.declared.request.PendingKind.{PendingKind}
pub use Rattle.dm_procman.specs.Lawful.{IsLawfulManager, IsLawfulPending}
pub use Rattle.dm_procman.specs.Making.{answer_over, control_link, message_to}
pub use Rattle.dm_procman.specs.Managing.{Managing, at_home, child_at_home, pending_is_behind, plain_child, plain_manager, plain_pending, retargeted_manager, retargeted_pending, starting}
pub use Rattle.dm_procman.specs.Moving.{child_named, tells_to_move, known_address, asks_to_move}
pub use Rattle.dm_procman.specs.Named.{place_named}
pub use Rattle.dm_procman.specs.Plainly.{plain_taken, plainly_taken}
pub use Rattle.dm_procman.specs.Taking.{IsForManager, Taken, answers, answers_over, asks, asks_for, bad_request, child_address, controls, controls_child, first_link, has_number, pending_request, requests, sends, settled, takes}
pub use Rattle.dm_procman.specs.Taking.{takes_created, takes_moved, takes_no_room, takes_user, wants_child, wants_move, with_pending, without_pending}
pub use Rattle.dm_procman.specs.declared.pending.Pending.{Pending}
