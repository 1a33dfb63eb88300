use Rattle.dm_node.proofs.Names.{◌≡◌, replicate, fresh_sending}
use Rattle.dm_node.proofs.begin.fresh_senders.Given as goal

abbrev pub invariant-loop-machine : goal.invariant-loop-machine
invariant-loop-machine l = l.senders.items ≡ replicate l._machine (fresh_sending l.numbers)
