use Rattle.dm_explore.specs.Asked.{bounds_said}
use Rattle.dm_explore.specs.Choices.{of_pair}
use Rattle.dm_explore.proofs.Offering.{ForOthers}
use Rattle.dm_explore.proofs.choices.offer_from.Given as goal

-- those to the machines so far
abbrev pub invariant-loop-b : goal.invariant-loop-b
invariant-loop-b l = ForOthers l.world l.past (λ n s ds. of_pair (bounds_said l.bounds) s ds l.again l.a) l.a l.b l.fn.offered.items l.offered.items
