use Rattle.dm_chart.proofs.Names.{◌≡◌, ◌++◌, drop}
use Rattle.dm_chart.proofs.chart.copied.Given as goal

abbrev pub invariant-loop-number : goal.invariant-loop-number
invariant-loop-number l = l.all ++ drop l.number-index l.numbers ≡ l.numbers
