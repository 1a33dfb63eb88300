-- Whether the slot is among those that are left says whether it is among all.
use Rattle.dm_syscall.proofs.Names.{◌≡◌, drop, is_among}
use Rattle.dm_syscall.proofs.send.is_among.Given as goal

abbrev pub invariant-loop-other : goal.invariant-loop-other
invariant-loop-other l = is_among l.slot (drop l.other-index l.slots) ≡ is_among l.slot l.slots
