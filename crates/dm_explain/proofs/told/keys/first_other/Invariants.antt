use Rattle.dm_explain.proofs.Names.{◌≡◌, drop, items_view, first_failing}
use Rattle.std.specs.Option.{is_some}
use Rattle.toml.specs.Data.{as_table}
use Rattle.dm_explain.proofs.told.keys.first_other.Given as goal

abbrev pub invariant-loop-i : goal.invariant-loop-i
invariant-loop-i l = first_failing (λ i t. is_some (as_table t)) l.i (items_view (drop l.i l.items)) ≡ first_failing (λ i t. is_some (as_table t)) 0 (items_view l.items)
