use Rattle.dm_chart.proofs.Names.{◌≡◌, ◌++◌}
use Rattle.dm_chart.proofs.kept.append.Given as goal

abbrev pub invariant-loop-line : goal.invariant-loop-line
invariant-loop-line l = l.lines ++ l.line-iterator.rest.items ≡ l.initial.lines ++ l.fn.group.items
