-- Placing those that are left now is placing all at first.
use Rattle.dm_syscall.proofs.Names.{◌≡◌, ◌+◌, drop, place_links}
use Rattle.dm_syscall.proofs.receive.place_links.Given as goal

abbrev pub invariant-loop-i : goal.invariant-loop-i
invariant-loop-i l =
    place_links (record { regs = l.regs; table = l.table }) (5 + l.i) (drop l.i l.links) ≡ place_links (record { regs = l.initial.regs; table = l.initial.table }) 5 l.links
