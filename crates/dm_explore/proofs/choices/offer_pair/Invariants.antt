use Rattle.dm_explore.specs.Asked.{bounds_said}
use Rattle.dm_explore.specs.Choices.{is_due_on}
use Rattle.dm_explore.proofs.Offering.{ForPuts}
use Rattle.dm_explore.proofs.choices.offer_pair.Given as goal

-- those of the packets so far
abbrev pub invariant-loop-put : goal.invariant-loop-put
invariant-loop-put l = ForPuts l.world l.past (λ s ds. is_due_on (bounds_said l.bounds) s ds l.again l.a l.b) l.put-index l.fn.offered.items l.offered.items
