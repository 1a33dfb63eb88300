use Rattle.std.specs.Prelude.{◌≡◌, false}
use Rattle.dm_world.specs.Meets.{world_state}
use Rattle.dm_explore.specs.Sights.{world_lingers}
use Rattle.dm_explore.proofs.sights.lingers_somewhere.Given as goal

-- on none of those so far
abbrev pub invariant-loop-m : goal.invariant-loop-m
invariant-loop-m l = world_lingers l.m (world_state l.world) l.pid ≡ false
