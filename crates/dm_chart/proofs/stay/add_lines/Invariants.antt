use Rattle.dm_chart.proofs.Names.{◌≡◌, drop}
use Rattle.dm_chart.specs.Stays.{stays_behind}
use Rattle.dm_chart.proofs.stay.add_lines.Given as goal

abbrev pub invariant-loop-line : goal.invariant-loop-line
invariant-loop-line l = stays_behind l.processes l.stays l.spot (drop l.line-index l.lines) ≡ stays_behind l.processes l.initial.stays l.initial.spot l.lines
