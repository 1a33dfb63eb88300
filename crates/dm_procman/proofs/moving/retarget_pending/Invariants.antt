use Rattle.dm_procman.proofs.Names.{◌≡◌, pending_is_behind, retargeted_pending}
use Rattle.dm_procman.proofs.Following.{counted, followed}
use Rattle.dm_procman.proofs.moving.retarget_pending.Given as goal

abbrev pub invariant-loop-request : goal.invariant-loop-request
invariant-loop-request l = record {
  told : l.pending ≡ followed (retargeted_pending l.about l.at l.moves) l.request-index l.fn.pending;
  changed : l.changed ≡ counted (pending_is_behind l.about l.moves) l.request-index l.fn.pending;
}
