use Rattle.dm_explain.proofs.Names.{◌≡◌, ◌++◌, drop, items_view, each, image_told}
use Rattle.dm_explain.proofs.system.put_images.Given as goal

abbrev pub invariant-loop-i : goal.invariant-loop-i
invariant-loop-i l = l.into.items ++ each (image_told (items_view l.tables)) l.i (drop l.i l.images) ≡ l.initial.into.items ++ each (image_told (items_view l.tables)) 0 l.images
