use Rattle.std.specs.BTreeMap.{values}
use Rattle.dm_procman.proofs.Names.{◌≡◌, ◌++◌}
use Rattle.dm_procman.proofs.pending.add_values.Given as goal

abbrev pub invariant-loop-request : goal.invariant-loop-request
invariant-loop-request l = l.list.items ++ l.request-iterator ≡ l.fn.list.items ++ values l.ascending
