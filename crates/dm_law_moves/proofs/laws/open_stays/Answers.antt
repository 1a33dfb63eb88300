use Rattle.dm_law_moves.proofs.Open.Stays.{open_stays}
use Rattle.dm_law_moves.proofs.laws.open_stays.Goals as goal

pub returns : goal.returns
returns c = open_stays
