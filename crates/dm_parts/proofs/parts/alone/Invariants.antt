use Rattle.std.proofs.Common.{◌≡◌, ◌-◌, ◌+◌, ◌++◌}
use Rattle.dm_parts.specs.Parts.{alone}
use Rattle.dm_parts.proofs.parts.alone.Given as goal

abbrev pub invariant-loop-place : goal.invariant-loop-place
invariant-loop-place l = l.parts.items ++ alone l.place ((l.last + 1) - l.place) ≡ alone 0 (l.last + 1)
