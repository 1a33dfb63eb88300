use Rattle.std.specs.Prelude.{◌≡◌, false}
use Rattle.dm_world.specs.Meets.{world_state}
use Rattle.dm_explore.specs.Sights.{any_below, world_acts}
use Rattle.dm_explore.proofs.finds.none_acts.Given as goal

-- none of those so far
abbrev pub invariant-loop-m : goal.invariant-loop-m
invariant-loop-m l = any_below l.m (world_acts (world_state l.world)) ≡ false
