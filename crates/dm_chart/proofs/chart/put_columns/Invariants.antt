use Rattle.dm_chart.proofs.Names.{◌≡◌, ◌++◌, all_drawn, columns}
use Rattle.dm_chart.proofs.chart.put_columns.Given as goal

abbrev pub invariant-loop-m : goal.invariant-loop-m
invariant-loop-m l = l.into.items ≡ l.initial.into.items ++ all_drawn l.frame (columns l.m)
