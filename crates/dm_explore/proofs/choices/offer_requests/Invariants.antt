use Rattle.dm_explore.proofs.Offering.{ForRequests}
use Rattle.dm_explore.proofs.choices.offer_requests.Given as goal

-- those of the requests so far
abbrev pub invariant-loop-place : goal.invariant-loop-place
invariant-loop-place l = ForRequests l.world l.past l.requests l.place l.fn.offered.items l.offered.items
