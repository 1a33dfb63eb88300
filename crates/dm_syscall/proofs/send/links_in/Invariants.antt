-- The links so far and those of the slots that are left are all.
use Rattle.dm_syscall.proofs.Names.{◌≡◌, ◌≤◌, ◌++◌, drop, length, links_in}
use Rattle.dm_syscall.proofs.send.links_in.Given as goal

abbrev pub invariant-loop-slot : goal.invariant-loop-slot
invariant-loop-slot l =
    record { links : l.links.items ++ links_in l.table (drop l.slot-index l.slots) ≡ links_in l.table l.slots; few : length l.links.items ≤ l.slot-index }
