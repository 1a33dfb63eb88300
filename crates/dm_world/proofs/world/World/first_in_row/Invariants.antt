use Rattle.dm_world.proofs.Names.{◌≡◌, List, length, Two, next_delivery, row_at, world_state, world_undelivered}
use Rattle.dm_world.proofs.world.World.first_in_row.Given as goal

-- what was passed of the row has no such packet
abbrev pub invariant-loop-b : goal.invariant-loop-b
invariant-loop-b l =
    (rest : List Two)
    → next_delivery (world_undelivered (world_state l.self)) (row_at (length l.self.boot.machines) l.from l.fn.to rest) ≡ next_delivery (world_undelivered (world_state l.self)) (row_at (length l.self.boot.machines) l.from l.b rest)
