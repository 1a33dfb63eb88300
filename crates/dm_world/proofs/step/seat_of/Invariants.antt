use Rattle.dm_world.proofs.Names.{◌≡◌, None, Boot, node_in, seat_of}
use Rattle.dm_world.proofs.step.seat_of.Given as goal

abbrev pub invariant-loop-place : goal.invariant-loop-place
invariant-loop-place l = (b : Boot) → seat_of l.place (node_in b l.nodes) ≡ None
