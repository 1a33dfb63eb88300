use Rattle.std.specs.Prelude.{◌≡◌, ◌==◌, ◌&&◌, false, not}
use Rattle.dm_explore.specs.Offered.{sight_of}
use Rattle.dm_explore.specs.Sights.{any_below}
use Rattle.dm_explore.proofs.finds.waits_from.Given as goal

-- to none of those so far
abbrev pub invariant-loop-to : goal.invariant-loop-to
invariant-loop-to l = any_below l.to (λ c. not (l.m == c) && (sight_of l.world).waits l.m c) ≡ false
