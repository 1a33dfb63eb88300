use Rattle.dm_law_moves.proofs.Fair.{nobody_starves}
use Rattle.dm_law_moves.proofs.laws.nobody_starves.Goals as goal

pub returns : goal.returns
returns c = nobody_starves
