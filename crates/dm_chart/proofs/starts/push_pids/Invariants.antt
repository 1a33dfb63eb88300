use Rattle.dm_chart.proofs.Names.{◌≡◌, ◌++◌, drop, map}
use Rattle.dm_chart.proofs.starts.push_pids.Given as goal

abbrev pub invariant-loop-process : goal.invariant-loop-process
invariant-loop-process l = l.pids ++ map (λ p. p.pid) (drop l.process-index l.processes) ≡ l.initial.pids ++ map (λ p. p.pid) l.processes
