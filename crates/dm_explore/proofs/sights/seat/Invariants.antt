use Rattle.std.specs.Prelude.{◌≡◌}
use Rattle.std.specs.declared.option.Option.TheVariants.{None}
use Rattle.dm_world.specs.Meets.{world_state}
use Rattle.dm_world.specs.World.{seat_of}
use Rattle.dm_explore.proofs.sights.seat.Given as goal

-- on none of those so far
abbrev pub invariant-loop-m : goal.invariant-loop-m
invariant-loop-m l = seat_of l.m (world_state l.world).nodes ≡ None
