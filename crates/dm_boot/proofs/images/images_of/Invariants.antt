use Rattle.dm_boot.proofs.Imports.{◌≡◌, ◌++◌, drop, items_view, map_items, image_of, first_unassembled}
use Rattle.dm_boot.proofs.images.images_of.Given as goal

abbrev pub invariant-loop-i : goal.invariant-loop-i
invariant-loop-i l = record {
  texts : first_unassembled l.i (items_view (drop l.i l.tables)) ≡ first_unassembled 0 (items_view l.tables);
  built : l.images ++ map_items image_of (items_view (drop l.i l.tables)) ≡ map_items image_of (items_view l.tables);
}
