use Rattle.dm_process.proofs.Names.{HasPassed}
use Rattle.dm_process.proofs.mailbox.first_place.Given as goal

abbrev pub invariant-loop-place : goal.invariant-loop-place
invariant-loop-place l = HasPassed l.mask l.place l.messages
