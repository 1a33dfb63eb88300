-- What the proofs of this crate name of what lies below it.
pub use Rattle.std.proofs.Common.{None, Some, ap₂, drop, drop_at, get_or, inl, inr, length-append, length-drop, length-set, position, slice_index_or, slice_range, slice_set, subst, take, take_all, vec_len, ◌++◌, ◌-◌}
pub use Rattle.std.proofs.lemmas.Bool.Decides.{leb_tells, nat_tests}
pub use Rattle.std.proofs.lemmas.List.{drop-append-le, take-append-le}
pub use Rattle.std.specs.List.{position_or_len}
pub use Rattle.std.specs.Prelude.{IfNone, IfSome}
pub use Rattle.dm_records.proofs.Names.{Bool, List, Option, [], ap, arith, false, has, if◌then◌else◌, length, refl, suc, sym, true, zero, ℕ, ◌*◌, ◌+◌, ◌<◌, ◌∙◌, ◌∷◌, ◌≡◌, ◌≤◌}
pub use Rattle.dm_records.specs.declared.machines.Machines.{Machines}
pub use Rattle.dm_wire.specs.Bytes.{AreEnds, HoldPackets, beginning, packets_in}
pub use Rattle.dm_wire.specs.Sent.{IsCursor, Sent, bytes_at, is_unseen, just_put, marked, seen_at}
pub use Rattle.dm_wire.specs.Wire.{AreDelivered, is_pair}
unfoldable pub use Rattle.dm_wire.specs.Wire.{packets_on}
