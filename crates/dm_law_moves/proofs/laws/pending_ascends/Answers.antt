use Rattle.dm_law_moves.proofs.Pending.Always.{pending_ascends}
use Rattle.dm_law_moves.proofs.laws.pending_ascends.Goals as goal

pub returns : goal.returns
returns c = pending_ascends
