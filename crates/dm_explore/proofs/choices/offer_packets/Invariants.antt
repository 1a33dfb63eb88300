use Rattle.dm_explore.specs.Asked.{bounds_said}
use Rattle.dm_explore.specs.Choices.{of_machine}
use Rattle.dm_explore.proofs.Offering.{ForAll}
use Rattle.dm_explore.proofs.choices.offer_packets.Given as goal

-- those of the machines so far
abbrev pub invariant-loop-a : goal.invariant-loop-a
invariant-loop-a l = ForAll l.world l.past (λ n s ds. of_machine n (bounds_said l.bounds) s ds l.again) l.a l.fn.offered.items l.offered.items
