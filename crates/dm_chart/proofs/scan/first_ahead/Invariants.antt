use Rattle.dm_chart.proofs.Names.{◌≡◌, drop, first_ahead, is_wanted}
use Rattle.dm_chart.proofs.scan.first_ahead.Given as goal

abbrev pub invariant-loop-line : goal.invariant-loop-line
invariant-loop-line l = first_ahead (is_wanted l.wanted) l.spot (drop l.line-index l.lines) ≡ first_ahead (is_wanted l.wanted) l.initial.spot l.lines
