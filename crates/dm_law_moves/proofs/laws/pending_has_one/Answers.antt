use Rattle.dm_law_moves.proofs.Pending.Always.{pending_has_one}
use Rattle.dm_law_moves.proofs.laws.pending_has_one.Goals as goal

pub returns : goal.returns
returns c = pending_has_one
