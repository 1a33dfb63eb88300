-- What was written, and behind it what is said of the images that are left, is all.
use Rattle.dm_explain.proofs.Names.{◌≡◌, ◌++◌, drop, items_view, later_images}
use Rattle.dm_explain.proofs.told.put_later_images.Given as goal

abbrev pub invariant-loop-i : goal.invariant-loop-i
invariant-loop-i l = l.into.items ++ later_images l.file l.place l.i (items_view (drop l.i l.images)) ≡ l.initial.into.items ++ later_images l.file l.place 0 (items_view l.images)
