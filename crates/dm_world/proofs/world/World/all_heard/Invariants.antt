use Rattle.dm_world.proofs.Names.{◌≡◌, true, all_below, world_state, all_heard}
use Rattle.dm_world.proofs.world.World.all_heard.Given as goal

-- all that was routed to those passed is acknowledged
abbrev pub invariant-loop-to : goal.invariant-loop-to
invariant-loop-to l = all_below l.to (all_heard (world_state l.self) l.m) ≡ true
