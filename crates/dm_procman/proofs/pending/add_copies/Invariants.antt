use Rattle.dm_procman.proofs.Names.{◌≡◌, ◌++◌, drop}
use Rattle.dm_procman.proofs.pending.add_copies.Given as goal

abbrev pub invariant-loop-request : goal.invariant-loop-request
invariant-loop-request l = l.list.items ++ drop l.request-index l.others ≡ l.fn.list.items ++ l.others
