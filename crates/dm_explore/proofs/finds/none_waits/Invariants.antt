use Rattle.std.specs.Prelude.{◌≡◌, false, length}
use Rattle.dm_explore.specs.Finds.{waits_from}
use Rattle.dm_explore.specs.Offered.{sight_of}
use Rattle.dm_explore.specs.Sights.{any_below}
use Rattle.dm_explore.proofs.finds.none_waits.Given as goal

-- from none of those so far
abbrev pub invariant-loop-m : goal.invariant-loop-m
invariant-loop-m l = any_below l.m (waits_from (length l.world.boot.machines) (sight_of l.world)) ≡ false
