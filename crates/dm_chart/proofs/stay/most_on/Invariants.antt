use Rattle.dm_chart.proofs.Names.{◌≡◌}
use Rattle.dm_chart.specs.Stays.{most_on}
use Rattle.dm_chart.proofs.stay.most_on.Given as goal

abbrev pub invariant-loop-m : goal.invariant-loop-m
invariant-loop-m l = l.most ≡ most_on l.stays l.m
