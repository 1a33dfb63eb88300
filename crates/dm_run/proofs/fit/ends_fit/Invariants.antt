use Rattle.dm_run.proofs.Names.{take, All, EndFits, HidesNothing}
use Rattle.dm_run.proofs.fit.ends_fit.Given as goal

abbrev pub invariant-loop-end : goal.invariant-loop-end
invariant-loop-end l = All HidesNothing l.ends → All EndFits (take l.end-index l.ends)
