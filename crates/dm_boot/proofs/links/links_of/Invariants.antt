use Rattle.dm_boot.proofs.Imports.{◌≡◌, ◌++◌, ◌&&◌, drop, items_view, view, all_items, map_items, link_of, is_sound}
use Rattle.dm_boot.proofs.links.links_of.Given as goal

abbrev pub invariant-loop-table : goal.invariant-loop-table
invariant-loop-table l = record {
  links : l.links.items ++ map_items (link_of (view l.document.top.now) l.starts) (items_view (drop l.table-index l.tables)) ≡ map_items (link_of (view l.document.top.now) l.starts) (items_view l.tables);
  sound : (l.sound && all_items (is_sound (view l.document.top.now)) (items_view (drop l.table-index l.tables))) ≡ all_items (is_sound (view l.document.top.now)) (items_view l.tables);
}
