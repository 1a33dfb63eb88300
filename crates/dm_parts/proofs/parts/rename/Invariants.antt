use Rattle.std.proofs.Common.{◌≡◌}
use Rattle.dm_parts.specs.Parts.{renamed}
use Rattle.dm_parts.proofs.Loops.{first_changed}
use Rattle.dm_parts.proofs.parts.rename.Given as goal

abbrev pub invariant-loop-number : goal.invariant-loop-number
invariant-loop-number l = l.parts ≡ first_changed (renamed l.from l.to) l.number-index l.fn.parts
