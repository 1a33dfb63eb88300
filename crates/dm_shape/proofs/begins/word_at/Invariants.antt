use Rattle.std.specs.Prelude.{◌≡◌, ◌-◌, slice_get}
use Rattle.dm_reading.specs.Cuts.{pieces}
use Rattle.dm_shape.proofs.begins.word_at.Given as goal

-- as many words are passed as were gone through
abbrev pub invariant-loop-passed : goal.invariant-loop-passed
invariant-loop-passed l = slice_get (pieces 32 l.rest) (l.place - l.passed) ≡ slice_get (pieces 32 l.fn.text) l.place
