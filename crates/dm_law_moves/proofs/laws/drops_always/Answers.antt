use Rattle.dm_law_moves.proofs.At.RestQueues.{drops_always}
use Rattle.dm_law_moves.proofs.laws.drops_always.Goals as goal

pub returns : goal.returns
returns c = drops_always
