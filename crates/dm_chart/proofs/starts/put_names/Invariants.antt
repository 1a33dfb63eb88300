use Rattle.dm_chart.proofs.Names.{◌≡◌, ◌++◌, drop, names_from}
use Rattle.dm_chart.proofs.starts.put_names.Given as goal

abbrev pub invariant-loop-i : goal.invariant-loop-i
invariant-loop-i l = l.into.items ++ names_from l.i (drop l.i l.processes) ≡ l.initial.into.items ++ names_from 0 l.processes
