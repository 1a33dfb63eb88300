use Rattle.std.specs.Prelude.{◌≡◌, map, take}
use Rattle.dm_explore.proofs.Ways.{step_noted}
use Rattle.dm_explore.proofs.search.Search.found.Given as goal

-- the directives so far
abbrev pub invariant-loop-done : goal.invariant-loop-done
invariant-loop-done l = l.steps.items ≡ map step_noted (take l.done-index l.done-items)
