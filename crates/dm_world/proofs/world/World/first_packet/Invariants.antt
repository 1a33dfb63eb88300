use Rattle.dm_world.proofs.Names.{◌≡◌, ◌-◌, length, next_delivery, pairs_at, world_state, world_undelivered}
use Rattle.dm_world.proofs.world.World.first_packet.Given as goal

-- the pairs that were passed have no such packet
abbrev pub invariant-loop-a : goal.invariant-loop-a
invariant-loop-a l =
    next_delivery (world_undelivered (world_state l.self)) (pairs_at (length l.self.boot.machines) l.fn.from l.fn.to) ≡ next_delivery (world_undelivered (world_state l.self)) (pairs_at (length l.self.boot.machines) l.a l.to)

abbrev pub decreases-loop-a : goal.decreases-loop-a
decreases-loop-a l = l.machines - l.a
