-- What the proofs of this crate name of what lies below it.
pub use Rattle.std.proofs.Common.{ap, arith, bit_or, refl, rules, suc, sym, zero, ℕ, ◌%◌, ◌*◌, ◌∙◌}
pub use Rattle.std.proofs.lemmas.Grind.{common_steps}
pub use Rattle.std.proofs.lemmas.Nat.Bits.{bit_at-zero, bit_at_set_other, bit_at_set_same}
pub use Rattle.std.specs.BTreeMap.{get, is_at}
pub use Rattle.std.specs.Int.{bit_at, w16}
pub use Rattle.std.specs.List.{range_with_len}
pub use Rattle.std.specs.Option.{option_flatten}
pub use Rattle.std.specs.Prelude.{Bool, IsSome, List, [], cond, false, filter, if◌then◌else◌, length, true, ◌+◌, ◌<◌, ◌==◌, ◌^◌, ◌||◌, ◌∷◌, ◌≡◌, ◌≤◌}
pub use Rattle.std.specs.declared.option.Option.{Option}
pub use Rattle.std.specs.declared.option.Option.TheVariants.{Some}
pub use Rattle.dm_link.specs.Names.{pid_cmp, pid_eq}
pub use Rattle.dm_link.specs.declared.Pid.{Pid}
unfoldable pub use Rattle.dm_records.specs.Machines.{has}
unfoldable pub use Rattle.dm_records.specs.Records.{at, pred_at}
