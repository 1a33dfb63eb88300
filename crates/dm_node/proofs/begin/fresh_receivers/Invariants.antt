use Rattle.dm_node.proofs.Names.{◌≡◌, replicate, fresh_receiving}
use Rattle.dm_node.proofs.begin.fresh_receivers.Given as goal

abbrev pub invariant-loop-machine : goal.invariant-loop-machine
invariant-loop-machine l = l.receivers.items ≡ replicate l._machine fresh_receiving
