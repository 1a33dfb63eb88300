use Rattle.dm_world.proofs.Names.{◌≡◌, not, true, all_below, world_state, world_serves}
use Rattle.dm_world.proofs.world.World.none_is_served.Given as goal

-- none of those passed
abbrev pub invariant-loop-m : goal.invariant-loop-m
invariant-loop-m l = all_below l.m (λ a. not (world_serves (world_state l.self) a)) ≡ true
