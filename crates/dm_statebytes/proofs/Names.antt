-- What the proofs of this crate name of what lies below it.
pub use Rattle.std.proofs.Common.{slice_set}
pub use Rattle.std.proofs.Math.Nat.{pow-le-pow_right}
pub use Rattle.std.proofs.lemmas.Bool.{lt-ltb}
pub use Rattle.std.proofs.lemmas.List.{length-drop, length-replicate, take_more_set}
pub use Rattle.std.proofs.lemmas.Nat.{mod-pow-add, mod_below}
pub use Rattle.std.specs.Prelude.{nat_lt, ◌&&◌}
pub use Rattle.dm_processor.proofs.Names.{Bool, List, None, Option, Some, [], ap, arith, common_steps, drop, false, get_or, length, nat_tests, refl, suc, sym, take, take_all, true, zero, ℕ, ◌%◌, ◌*◌, ◌++◌, ◌+◌, ◌-◌, ◌/◌, ◌<◌, ◌^◌, ◌∙◌, ◌∷◌}
pub use Rattle.dm_processor.proofs.Names.{◌≡◌, ◌≤◌}
pub use Rattle.dm_processor.specs.declared.registers.Regs.{Regs}
pub use Rattle.dm_linktable.proofs.Names.{Err, Link, Ok, Pid, Result, eqb, link_at, replicate, set, subst, ◌==◌}
pub use Rattle.dm_packet.proofs.Coded.{IsHeld, coded_is, held_is, yes_or_no_is}
pub use Rattle.dm_packet.proofs.Field.{IsField, IsField-both, IsField-for, IsField-made, IsField-number, IsField-repeated_field, IsField-tested, Took, bind_ok, guard_ok, then_parts, took_same}
pub use Rattle.dm_packet.proofs.Fields.{IsLenFrom, IsSpelledAddr, IsSpelledLink, IsSpelledPid, addr_is, len_from_is, link_is, number_within_is, pid_is}
pub use Rattle.dm_packet.proofs.Loop.{goes_on, with_front}
pub use Rattle.dm_packet.proofs.Names.{find, held_if, is_some, len_from, version, Addr, All, All-from_recursion, AllByRecursion, Fits, General, IfOk, IfSome, IsLawfulMessage, IsMachine, Message, OnOk, Reply, addr, append-nil, append_assoc, bit_of, both, eq-eqb, eqb-true}
pub use Rattle.dm_packet.proofs.Names.{err_from_is_err_and, flat_map, flat_map-cons, if◌then◌else◌, inl, inr, length-append, link, ltb-true, mod-eq_of_lt, nat_le, nil_from_length, number, pid, pow-succ', read_times, recursion_from_All}
pub use Rattle.dm_packet.proofs.Names.{take_at_read, yes_or_no, ◌>>=◌, ◌⊎◌}
pub use Rattle.dm_packet.proofs.Numbers.{IsBytes}
pub use Rattle.dm_packet.proofs.Writes.{all_next, next_has_room, pieces_next, then_put}
pub use Rattle.dm_packet.specs.declared.PacketError.{PacketError}
pub use Rattle.dm_process.specs.Begun.{begun_process}
pub use Rattle.dm_process.specs.Directions.{direction_numbered, number_of_direction}
pub use Rattle.dm_process.specs.Lawful.{IsLawfulProcess, IsLawfulStatus, SlotIsLawful}
pub use Rattle.dm_process.specs.declared.process.Direction.{Direction}
pub use Rattle.dm_process.specs.declared.process.Direction.TheVariants.{FromArea, IntoArea}
pub use Rattle.dm_process.specs.declared.process.Process.{Process}
pub use Rattle.dm_process.specs.declared.process.Status.{Status}
pub use Rattle.dm_process.specs.declared.process.Status.TheVariants.{Moving, Ready, Waiting}
pub use Rattle.dm_statebytes.specs.Lawful.{IsLawfulShell}
pub use Rattle.dm_statebytes.specs.Shell.{Front, blocks, by_rule, front, only_shell, regs, shell, shell_front, shell_of, shell_with}
unfoldable pub use Rattle.dm_statebytes.specs.Shell.{registers, shell_of_bytes, shell_spelling}
pub use Rattle.dm_statebytes.specs.Statuses.{direction, left_from, moving, number_of_status_kind, read_status, spell_status, status, status_kind, waiting}
pub use Rattle.dm_statebytes.specs.Table.{mask, mask_of, read_slots, slots, spell_slot, table}
pub use Rattle.dm_statebytes.specs.Widths.{FitsShell, FitsSlot, FitsStatus}
pub use Rattle.dm_statebytes.specs.declared.Shell.{Shell}
pub use Rattle.dm_statebytes.specs.declared.StateBytesError.{StateBytesError}
pub use Rattle.dm_statebytes.specs.declared.status.StatusKind.{StatusKind}
