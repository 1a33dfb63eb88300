use Rattle.dm_statebytes.proofs.Names.{◌≡◌, ◌≤◌, drop, length, mask_of}
use Rattle.dm_statebytes.proofs.writing.mask_of.Given as goal

abbrev pub invariant-loop-slot : goal.invariant-loop-slot
invariant-loop-slot l = (l.mask ≡ mask_of (drop l.slot l.table)) × (l.slot ≤ length l.table)

abbrev pub decreases-loop-slot : goal.decreases-loop-slot
decreases-loop-slot l = l.slot
