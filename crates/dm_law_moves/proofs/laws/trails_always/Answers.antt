use Rattle.dm_law_moves.proofs.Trail.Known.{trails_always}
use Rattle.dm_law_moves.proofs.laws.trails_always.Goals as goal

pub returns : goal.returns
returns c = trails_always
