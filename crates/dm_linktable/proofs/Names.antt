-- What the proofs of this crate name of what lies below it.
pub use Rattle.std.proofs.Common.{Err, List, None, Ok, Option, Result, Some, [], ap, arith, bit_and, bit_or, cond, count_by, eqb, false, get_or, length, ltb, map, refl, rules, set, subst, suc, sym, true, zero, ℕ, ⊎_elim, ◌%◌, ◌&&◌, ◌*◌}
pub use Rattle.std.proofs.Common.{◌+◌, ◌-◌, ◌<◌, ◌==◌, ◌^◌, ◌∙◌, ◌∷◌, ◌≡◌, ◌≢◌, ◌≤◌}
pub use Rattle.std.proofs.Math.ListN.{replicate}
pub use Rattle.std.proofs.Math.Nat.{eq-or-lt_of_le, eq-zero-or-pos}
pub use Rattle.std.proofs.lemmas.Bool.{cases_lt}
pub use Rattle.std.proofs.lemmas.Cmp.{nat_cmp_total, on_total, then_total}
pub use Rattle.std.proofs.lemmas.Grind.{common_steps}
pub use Rattle.std.proofs.lemmas.List.{get_or-map, get_or_default, length-map, same_lists}
pub use Rattle.std.proofs.lemmas.List.Edits.{get_or-insert_above, get_or-insert_at, get_or-insert_below, get_or-remove_above, get_or-remove_below, length-insert, length-remove}
pub use Rattle.std.proofs.lemmas.List.Quantifiers.{position-Some}
pub use Rattle.std.proofs.lemmas.List.Sorted.{answers_always, searchable_from_sorted}
pub use Rattle.std.proofs.lemmas.List.Sums.{sum_by-insert, sum_by-remove, sum_by-set}
pub use Rattle.std.proofs.lemmas.Map.Keys.{IsDistinct-from_apart}
pub use Rattle.std.proofs.lemmas.Map.Steps.{length-le_from_distinct_below}
pub use Rattle.std.proofs.lemmas.Nat.{and_le_l}
pub use Rattle.std.proofs.lemmas.Nat.Bits.{bit_at-trailing_zeros, bit_at-zero, bit_at_above, bit_at_clear_other, bit_at_clear_same, bit_at_set_other, bit_at_set_same}
pub use Rattle.std.specs.Cmp.{IsTotalOrder}
pub use Rattle.std.specs.Int.{bit_at, trailing_zeros, w128}
pub use Rattle.std.specs.Int.Bits.{and_lt}
pub use Rattle.std.specs.List.{insert, list_any, remove}
pub use Rattle.std.specs.List.Sorted.{IsBinarySearchResult, IsNonDecreasingBy, IsSearchInRange}
pub use Rattle.std.specs.Option.{is_none}
pub use Rattle.std.specs.Result.{IsOk, is_ok}
pub use Rattle.std.specs.Vec.{vec_capacity, vec_len}
pub use Rattle.std.specs.Ordering.{is_lt, ordering_index}
pub use Rattle.std.specs.declared.cmp.Ordering.TheVariants.{Equal, Greater, Less}
pub use Rattle.dm_link.specs.Names.{pid_cmp, pid_eq}
pub use Rattle.dm_link.specs.declared.Link.{Link}
pub use Rattle.dm_link.specs.declared.Pid.{Pid}
pub use Rattle.dm_linktable.specs.Index.{Agrees, IsIndex, IsPlace, IsTable, leads, mask_in, mask_of}
pub use Rattle.dm_linktable.specs.Slots.{first_empty, link_at, plain_slot, retargeted_slot, slot_is_behind}
pub use Rattle.dm_linktable.specs.declared.index.Entry.{Entry}
