use Rattle.dm_boot.proofs.Imports.{◌≡◌, drop, items_view, all_items, as_table, is_some}
use Rattle.dm_boot.proofs.shapes.are_tables.Given as goal

abbrev pub invariant-loop-item : goal.invariant-loop-item
invariant-loop-item l = all_items (λ t. is_some (as_table t)) (items_view (drop l.item-index l.items)) ≡ all_items (λ t. is_some (as_table t)) (items_view l.items)
