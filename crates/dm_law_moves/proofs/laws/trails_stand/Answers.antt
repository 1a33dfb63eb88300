use Rattle.dm_law_moves.proofs.Trail.Standing.{trails_stand}
use Rattle.dm_law_moves.proofs.laws.trails_stand.Goals as goal

pub returns : goal.returns
returns c = trails_stand
