use Rattle.dm_law_moves.proofs.Settles.Falls.LeftFalls.{left_falls}
use Rattle.dm_law_moves.proofs.settle.left_falls.Goals as goal

pub returns : goal.returns
returns c = left_falls
