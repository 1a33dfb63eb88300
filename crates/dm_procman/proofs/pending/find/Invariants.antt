-- The first of those that are left is the first of all.
use Rattle.dm_procman.proofs.Names.{◌≡◌, drop, pending_request}
use Rattle.dm_procman.proofs.pending.find.Given as goal

abbrev pub invariant-loop-request : goal.invariant-loop-request
invariant-loop-request l = pending_request l.number (drop l.request-index l.pending) ≡ pending_request l.number l.pending
