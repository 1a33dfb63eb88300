use Rattle.dm_boot.proofs.Imports.{◌≡◌, drop, items_view, view, all_items, has_target}
use Rattle.dm_boot.proofs.targets.have_targets.Given as goal

abbrev pub invariant-loop-link : goal.invariant-loop-link
invariant-loop-link l = all_items (has_target (view l.document.top.now)) (items_view (drop l.link-index l.links)) ≡ all_items (has_target (view l.document.top.now)) (items_view l.links)
