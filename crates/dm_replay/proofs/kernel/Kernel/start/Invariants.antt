-- The processes of the list's end have begun.
use Rattle.dm_replay.proofs.Beginning.{HasBegun}
use Rattle.dm_replay.proofs.kernel.Kernel.start.Given as goal

abbrev pub invariant-loop-left : goal.invariant-loop-left
invariant-loop-left l = HasBegun l.boot l.left l.kernel

abbrev pub decreases-loop-left : goal.decreases-loop-left
decreases-loop-left l = l.left
