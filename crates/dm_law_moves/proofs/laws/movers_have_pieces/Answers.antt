use Rattle.dm_law_moves.proofs.Movers.Always.{movers_have_pieces}
use Rattle.dm_law_moves.proofs.laws.movers_have_pieces.Goals as goal

pub returns : goal.returns
returns c = movers_have_pieces
