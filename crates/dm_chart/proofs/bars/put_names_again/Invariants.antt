use Rattle.dm_chart.proofs.Names.{◌≡◌, ◌++◌, each_below, name_again}
use Rattle.dm_chart.proofs.bars.put_names_again.Given as goal

abbrev pub invariant-loop-block : goal.invariant-loop-block
invariant-loop-block l = l.into.items ≡ l.initial.into.items ++ each_below (name_again l.x l.pid l.row l.last) l.block
