use Rattle.dm_chart.proofs.Names.{◌≡◌, ◌++◌, drop, map, all_drawn, first_bar}
use Rattle.dm_chart.proofs.chart.put_starts.Given as goal

abbrev pub invariant-loop-start : goal.invariant-loop-start
invariant-loop-start l = l.into.items ++ all_drawn l.frame (map (first_bar l.frame.rows l.frame.hidden l.lines) (drop l.start-index l.starts)) ≡ l.initial.into.items ++ all_drawn l.frame (map (first_bar l.frame.rows l.frame.hidden l.lines) l.starts)
