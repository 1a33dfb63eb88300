use Rattle.dm_run.proofs.Names.{take, All, LineFits}
use Rattle.dm_run.proofs.fit.lines_fit.Given as goal

abbrev pub invariant-loop-line : goal.invariant-loop-line
invariant-loop-line l = All LineFits (take l.line-index l.lines)
