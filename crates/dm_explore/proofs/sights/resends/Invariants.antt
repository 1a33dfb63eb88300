use Rattle.std.specs.Prelude.{◌≡◌, false}
use Rattle.dm_world.specs.Meets.{world_state}
use Rattle.dm_explore.specs.Sights.{any_below, is_out}
use Rattle.dm_explore.proofs.sights.resends.Given as goal

-- to none of those so far
abbrev pub invariant-loop-to : goal.invariant-loop-to
invariant-loop-to l = any_below l.to (is_out (world_state l.world) l.m) ≡ false
