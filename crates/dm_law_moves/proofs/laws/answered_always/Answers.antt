use Rattle.dm_law_moves.proofs.Asked.Always.{answered_always}
use Rattle.dm_law_moves.proofs.laws.answered_always.Goals as goal

pub returns : goal.returns
returns c = answered_always
