use Rattle.dm_stream.proofs.Names.{◌≡◌, drop}
use Rattle.dm_stream.proofs.sender.let_go.Given as goal

abbrev pub invariant-loop-gone : goal.invariant-loop-gone
invariant-loop-gone g l = l.queue.items ≡ drop l._gone l.initial.queue.items
