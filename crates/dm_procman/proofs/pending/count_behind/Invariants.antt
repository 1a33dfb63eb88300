use Rattle.std.specs.BTreeMap.{values}
use Rattle.dm_procman.proofs.Names.{◌≡◌, ◌+◌, count_by, pending_is_behind}
use Rattle.dm_procman.proofs.pending.count_behind.Given as goal

abbrev pub invariant-loop-request : goal.invariant-loop-request
invariant-loop-request l = l.behind + count_by (pending_is_behind l.about l.moves) l.request-iterator ≡ count_by (pending_is_behind l.about l.moves) (values l.ascending)
