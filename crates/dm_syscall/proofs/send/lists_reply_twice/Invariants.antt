-- Whether one stands twice among those that are left says whether one stands twice among all.
use Rattle.dm_syscall.proofs.Names.{◌≡◌, drop, map, plain_slot, reply_named_twice}
use Rattle.dm_syscall.proofs.send.lists_reply_twice.Given as goal

abbrev pub invariant-loop-i : goal.invariant-loop-i
invariant-loop-i l = reply_named_twice (map plain_slot l.table) (drop l.i l.slots) ≡ reply_named_twice (map plain_slot l.table) l.slots
