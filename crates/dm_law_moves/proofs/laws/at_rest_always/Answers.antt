use Rattle.dm_law_moves.proofs.At.Always.{at_rest_always}
use Rattle.dm_law_moves.proofs.laws.at_rest_always.Goals as goal

pub returns : goal.returns
returns c = at_rest_always
