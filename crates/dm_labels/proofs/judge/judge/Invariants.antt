-- What is left is judged as the whole.
use Rattle.std.specs.Prelude.{length}
use Rattle.dm_labels.proofs.Judging.{JudgesSo}
use Rattle.dm_labels.proofs.judge.judge.Given as goal

abbrev pub invariant-loop-rest : goal.invariant-loop-rest
invariant-loop-rest l = JudgesSo l.boot l.text l.kernel l.line l.rest

abbrev pub decreases-loop-rest : goal.decreases-loop-rest
decreases-loop-rest l = length l.rest
