use Rattle.dm_chart.proofs.Names.{◌≡◌, false, drop, waits_behind}
use Rattle.dm_chart.proofs.scan.waits_behind.Given as goal

abbrev pub invariant-loop-line : goal.invariant-loop-line
invariant-loop-line l = waits_behind l.pid l.waits (drop l.line-index l.lines) ≡ waits_behind l.pid false l.lines
