-- Emptying those that are left now is emptying all at first.
use Rattle.dm_syscall.proofs.Names.{◌≡◌, drop, emptied}
use Rattle.dm_syscall.proofs.send.empty_replies.Given as goal

abbrev pub invariant-loop-slot : goal.invariant-loop-slot
invariant-loop-slot l = emptied l.table (drop l.slot-index l.slots) ≡ emptied l.initial.table l.slots
