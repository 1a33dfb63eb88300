-- What the proofs of this crate name of what lies below it.
pub use mathlib.Core.Path.{fun_ext}
pub use Rattle.byteorder.specs.Endian.{big_bytes, big_from, big_number}
pub use Rattle.byteorder.specs.Numbers.{big_from-cons, big_from-lt, big_number-reads_back, length-bytes_high_first}
pub use Rattle.std.proofs.Common.{Bool, Err, List, None, Ok, Option, Result, Some, [], ap, append_assoc, arith, cond, drop, eqb, false, get_or, inl, inr, length, ltb, refl, replicate, subst, suc, sym, take, true, zero, ℕ, ◌%◌, ◌*◌, ◌++◌}
pub use Rattle.std.proofs.Common.{◌+◌, ◌-◌, ◌/◌, ◌<◌, ◌^◌, ◌∙◌, ◌∷◌, ◌≡◌, ◌≤◌}
pub use Rattle.std.proofs.Math.Nat.{div-one, mod-eq_of_lt, mul-add-div_right, mul-add-mod_self_right, mul_assoc, one-le-pow, pow-succ'}
pub use Rattle.std.proofs.lemmas.Bool.{and_from, and_parts, cases_lt, eq-eqb, eqb-true, le-leb, le-ltb, leb-true, ltb-false, ltb-true}
pub use Rattle.std.proofs.lemmas.Bool.Decides.{nat_tests}
pub use Rattle.std.proofs.lemmas.Grind.{take_at_read}
pub use Rattle.std.proofs.lemmas.List.{append-nil, drop_at, get_or-drop, get_or-take, get_or_past, length-append, length-take, nil_from_length, take-append-drop, take_at}
pub use Rattle.std.proofs.lemmas.List.Concat.{flat_map-append, flat_map-cons}
pub use Rattle.std.proofs.lemmas.List.Elements.{All-from_recursion, All-push, recursion_from_All}
pub use Rattle.std.proofs.lemmas.List.Folds.{length-flat_map-take}
pub use Rattle.std.proofs.lemmas.Nat.{div-mul-add}
pub use Rattle.std.proofs.lemmas.Result.{err_from_is_err_and}
pub use Rattle.std.specs.Int.{byte_at, bytes_high_first}
pub use Rattle.std.specs.List.{All, AllByRecursion, find, flat_map}
pub use Rattle.std.specs.Option.{IfSome}
pub use Rattle.std.specs.Prelude.{is_some, ok_or, option_map, IfOk, OnOk, if◌then◌else◌, nat_le, not, ◌&&◌, ◌==◌, ◌↔◌, ◌≢◌, ◌⊎◌}
pub use Rattle.dm_link.specs.Lawful.{IsLawfulAddr, IsLawfulEnclosed, IsMachine}
pub use Rattle.dm_link.specs.declared.Addr.{Addr}
pub use Rattle.dm_link.specs.declared.Kind.{Kind}
pub use Rattle.dm_link.specs.declared.Kind.TheVariants.{General, Reply}
pub use Rattle.dm_link.specs.declared.Link.{Link}
pub use Rattle.dm_link.specs.declared.Pid.{Pid}
pub use Rattle.dm_message.specs.Ids.{bool_eq}
pub use Rattle.dm_message.specs.Kinds.{all_kinds, kind_numbered, kind_of, number_of}
pub use Rattle.dm_message.specs.Lawful.{IsLawfulMessage, IsLawfulWhat, IsPiece, IsServer, IsSize, is_answer}
pub use Rattle.dm_message.specs.declared.Asker.{Asker}
pub use Rattle.dm_message.specs.declared.Message.{Message}
pub use Rattle.dm_message.specs.declared.MsgId.{MsgId}
pub use Rattle.dm_message.specs.declared.Outcome.{Outcome}
pub use Rattle.dm_message.specs.declared.What.{What}
pub use Rattle.dm_message.specs.declared.What.TheVariants.{Ask, User}
pub use Rattle.dm_message.specs.declared.kind.MessageKind.{MessageKind}
pub use Rattle.dm_packet.specs.Field.{Field, both, counted, made, number, number_within, read_times, repeated_field, run, tested, version, ◌>>=◌}
pub use Rattle.dm_packet.specs.Fields.{addr, are_flags, bit_of, bytes_within, channel, flags, flags_of, len_from, link, link_of_parts, links, machine, number_of_flags, parts_of_link, pid}
pub use Rattle.dm_packet.specs.Lawful.{IsLawfulPacket, IsRoute}
pub use Rattle.dm_packet.specs.Packets.{head, head_of, head_parts, id, message, number_of_packet_kind, numbered_message, only_packet, opening, packet_kind, read_ack}
pub use Rattle.dm_packet.specs.Packets.{read_data, with_head}
unfoldable pub use Rattle.dm_packet.specs.Packets.{packet_of, read_message, read_rest, spell_message, spelling}
pub use Rattle.dm_packet.specs.Whats.{ask, asker, blocks_field, code_of_outcome, coded, create, held_if, is_server_pid, memory, message_kind, optional}
pub use Rattle.dm_packet.specs.Whats.{outcome_field, piece_asked, piece_from, read, read_as, refuse, state, user, write, yes_or_no}
unfoldable pub use Rattle.dm_packet.specs.Whats.{read_what, spell_what}
pub use Rattle.dm_packet.specs.Widths.{Fits, FitsAddr, FitsAsker, FitsId, FitsLink, FitsMessage, FitsPacket, FitsPid, FitsWhat}
pub use Rattle.dm_packet.specs.declared.Packet.{Packet}
pub use Rattle.dm_packet.specs.declared.Packet.TheVariants.{Ack, Data}
pub use Rattle.dm_packet.specs.declared.PacketError.{PacketError}
pub use Rattle.dm_packet.specs.declared.PacketError.TheVariants.{Answer, Missing, Version}
pub use Rattle.dm_packet.specs.declared.front.Head.{Head}
pub use Rattle.dm_packet.specs.declared.front.Opening.{Opening}
pub use Rattle.dm_packet.specs.declared.front.PacketKind.{PacketKind}
