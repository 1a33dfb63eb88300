use Rattle.dm_law_moves.proofs.Routed.Always.{routed_always}
use Rattle.dm_law_moves.proofs.laws.routed_always.Goals as goal

pub returns : goal.returns
returns c = routed_always
