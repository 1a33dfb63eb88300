use Rattle.dm_chart.proofs.Names.{◌≡◌, ◌++◌, drop}
use Rattle.dm_chart.proofs.chart.push_starts.Given as goal

abbrev pub invariant-loop-start : goal.invariant-loop-start
invariant-loop-start l = l.processes ++ drop l.start-index l.starts ≡ l.initial.processes ++ l.starts
