use Rattle.dm_chart.proofs.Names.{◌≡◌, ◌++◌, false, drop, all_drawn, deliveries}
use Rattle.dm_chart.proofs.lines.put_deliveries.Given as goal

abbrev pub invariant-loop-line : goal.invariant-loop-line
invariant-loop-line l = l.into.items ++ all_drawn l.frame (deliveries l.sending.from l.sending.to l.sending.k l.sending.row l.sending.own l.due l.spot (drop l.line-index l.lines)) ≡ l.initial.into.items ++ all_drawn l.frame (deliveries l.sending.from l.sending.to l.sending.k l.sending.row l.sending.own false l.initial.spot l.lines)
