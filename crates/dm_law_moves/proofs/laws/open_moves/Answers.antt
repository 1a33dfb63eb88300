use Rattle.dm_law_moves.proofs.Open.Moves.{open_moves}
use Rattle.dm_law_moves.proofs.laws.open_moves.Goals as goal

pub returns : goal.returns
returns c = open_moves
