use Rattle.dm_boot.proofs.Imports.{◌≡◌, drop, items_view, all_items, is_link}
use Rattle.dm_boot.proofs.shapes.are_links.Given as goal

abbrev pub invariant-loop-item : goal.invariant-loop-item
invariant-loop-item l = all_items is_link (items_view (drop l.item-index l.items)) ≡ all_items is_link (items_view l.items)
