use Rattle.dm_judge.proofs.Names.{◌≡◌, ◌-◌, drop, pieces}
use Rattle.dm_judge.proofs.report.rest_at.Given as goal

abbrev pub invariant-lines : goal.invariant-lines
invariant-lines l = drop l.left (pieces 10 l.rest) ≡ drop (l.line - 1) (pieces 10 l.text)

abbrev pub decreases-lines : goal.decreases-lines
decreases-lines l = l.left
