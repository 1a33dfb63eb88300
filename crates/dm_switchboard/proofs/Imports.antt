-- What the proofs of this crate name of what lies below it.
pub use Rattle.std.specs.Str.{bytes_eq}
pub use Rattle.arrayvec.specs.ArrayVec.{ArrayVec}
pub use Rattle.indexmap.proofs.CallerLemmas.{insert_entry-new}
pub use Rattle.indexmap.specs.Layout.{set_value_at}
pub use Rattle.std.proofs.Common.{Bool, List, Some, [], ap, arith, count_by, false, if◌then◌else◌, is_some, length, map, nat_eq, refl, slice_get, subst, suc, sym, true, zero, ℕ, ◌++◌, ◌+◌, ◌<◌, ◌==◌, ◌∙◌, ◌∷◌, ◌≡◌, ◌≤◌}
pub use Rattle.std.proofs.lemmas.Grind.{common_steps}
pub use Rattle.std.proofs.lemmas.List.Elements.{All-map, All-push}
pub use Rattle.std.specs.Cmp.Lexicographic.{pointwise}
pub use Rattle.std.specs.List.{All}
pub use Rattle.std.specs.Map.{lookup}
pub use Rattle.std.specs.Option.{IfSome, option_map, option_map_or}
pub use Rattle.std.specs.Prelude.{IfOk, OnErr}
pub use Rattle.std.specs.declared.option.Option.{Option}
pub use Rattle.std.specs.declared.option.Option.TheVariants.{None}
pub use Rattle.std.specs.declared.result.Result.{Result}
pub use Rattle.std.specs.declared.result.Result.TheVariants.{Err, Ok}
pub use Rattle.dm_memory.specs.declared.NoMemory.{NoMemory}
pub use Rattle.dm_link.specs.Lawful.{IsLawfulAddr, IsLawfulEnclosed, IsMachine}
pub use Rattle.dm_link.specs.Places.{is_behind, relocated, retargeted_link}
pub use Rattle.dm_link.specs.Plain.{plain_link}
pub use Rattle.dm_link.specs.declared.Addr.{Addr}
pub use Rattle.dm_link.specs.declared.Link.{Link}
pub use Rattle.dm_link.specs.declared.Pid.{Pid}
pub use Rattle.dm_message.specs.Lawful.{IsLawfulMessage, IsLawfulWhat}
pub use Rattle.dm_message.specs.Plain.{plain_message, plain_what, with_what}
pub use Rattle.dm_message.specs.declared.Message.{Message}
pub use Rattle.dm_onekernel.specs.Boot.{is_general, switchboard}
pub use Rattle.dm_onekernel.specs.Switchboard.{is_name}
pub use Rattle.dm_switchboard.specs.Board.{Board, Named, listed, named, named_is_behind, plain_board, plain_named, retargeted_named}
pub use Rattle.dm_switchboard.specs.Following.{Entries, behind_at, counted, followed, told_at}
pub use Rattle.dm_switchboard.specs.Lawful.{IsLawfulBoard, IsLawfulNamed}
pub use Rattle.dm_switchboard.specs.Plainly.{plain_taken, plainly_taken}
pub use Rattle.dm_switchboard.specs.Taking.{Asked, Taken, answer_over, asks, asks_to_look_up, asks_to_register, bad_request, found_or_unknown, link_named, links_of_reply, looks_up, registers, registers_new, takes_request}
pub use Rattle.dm_switchboard.specs.declared.Took.{Took}
pub use Rattle.dm_switchboard.specs.declared.reply.Reply.{Reply}
