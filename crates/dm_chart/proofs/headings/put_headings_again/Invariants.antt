use Rattle.dm_chart.proofs.Names.{◌≡◌, ◌++◌, each_below, heading_again}
use Rattle.dm_chart.proofs.headings.put_headings_again.Given as goal

abbrev pub invariant-loop-block : goal.invariant-loop-block
invariant-loop-block l = l.into.items ≡ l.initial.into.items ++ each_below (heading_again l.frame l.m) l.block
