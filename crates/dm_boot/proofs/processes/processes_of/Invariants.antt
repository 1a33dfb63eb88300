use Rattle.dm_boot.proofs.Imports.{◌≡◌, ◌++◌, ◌&&◌, drop, items_view, view, all_items, linked_all, has_sound_links}
use Rattle.dm_boot.proofs.processes.processes_of.Given as goal

abbrev pub invariant-loop-i : goal.invariant-loop-i
invariant-loop-i l = record {
  processes : l.processes.items ++ linked_all (view l.document.top.now) l.starts (drop l.i l.starts) (items_view (drop l.i l.tables)) ≡ linked_all (view l.document.top.now) l.starts l.starts (items_view l.tables);
  sound : (l.sound && all_items (has_sound_links (view l.document.top.now)) (items_view (drop l.i l.tables))) ≡ all_items (has_sound_links (view l.document.top.now)) (items_view l.tables);
}
