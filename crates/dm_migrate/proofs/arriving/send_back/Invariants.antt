use Rattle.dm_migrate.proofs.Names.{◌≡◌, sent_on}
use Rattle.dm_migrate.proofs.Readdressed.{first_sent}
use Rattle.dm_migrate.proofs.arriving.send_back.Given as goal

abbrev pub invariant-loop-message : goal.invariant-loop-message
invariant-loop-message l = l.messages ≡ first_sent (sent_on l.to l.moves) l.message-index l.fn.messages
