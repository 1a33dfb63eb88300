use Rattle.dm_law_moves.proofs.Updates.Always.{updates_always}
use Rattle.dm_law_moves.proofs.laws.updates_always.Goals as goal

pub returns : goal.returns
returns c = updates_always
