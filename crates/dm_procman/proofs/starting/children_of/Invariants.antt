use Rattle.dm_procman.proofs.Names.{◌≡◌, map, take, child_at_home}
use Rattle.dm_procman.proofs.starting.children_of.Given as goal

abbrev pub invariant-loop-process : goal.invariant-loop-process
invariant-loop-process l = l.children ≡ map child_at_home (take l.process-index l.process-items)
