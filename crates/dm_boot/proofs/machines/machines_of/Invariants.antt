use Rattle.dm_boot.proofs.Imports.{◌≡◌, ◌++◌, drop, items_view, map_items, boot_machine}
use Rattle.dm_boot.proofs.machines.machines_of.Given as goal

abbrev pub invariant-loop-table : goal.invariant-loop-table
invariant-loop-table l = l.machines ++ map_items boot_machine (items_view (drop l.table-index l.tables)) ≡ map_items boot_machine (items_view l.tables)
