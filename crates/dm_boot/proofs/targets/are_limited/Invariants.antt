use Rattle.dm_boot.proofs.Imports.{◌≡◌, drop, items_view, view, all_items, is_limited}
use Rattle.dm_boot.proofs.targets.are_limited.Given as goal

abbrev pub invariant-loop-link : goal.invariant-loop-link
invariant-loop-link l = all_items (is_limited (view l.document.top.now)) (items_view (drop l.link-index l.links)) ≡ all_items (is_limited (view l.document.top.now)) (items_view l.links)
