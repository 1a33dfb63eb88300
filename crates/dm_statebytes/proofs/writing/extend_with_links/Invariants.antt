use Rattle.dm_statebytes.proofs.Names.{◌≡◌, ◌++◌, take, All, flat_map, spell_slot, FitsSlot}
use Rattle.dm_statebytes.proofs.writing.extend_with_links.Given as goal

abbrev pub invariant-loop-slot : goal.invariant-loop-slot
invariant-loop-slot l = (l.out.items ≡ l.fn.out.items ++ flat_map spell_slot (take l.slot l.table)) × All FitsSlot (take l.slot l.table)
