-- Whether one of those that are left is empty says whether one of all is.
use Rattle.dm_syscall.proofs.Names.{◌≡◌, drop, map, plain_slot, any_empty}
use Rattle.dm_syscall.proofs.send.any_empty.Given as goal

abbrev pub invariant-loop-slot : goal.invariant-loop-slot
invariant-loop-slot l = any_empty (map plain_slot l.table) (drop l.slot-index l.slots) ≡ any_empty (map plain_slot l.table) l.slots
