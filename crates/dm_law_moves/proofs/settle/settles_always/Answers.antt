use Rattle.dm_law_moves.proofs.Settles.PassHas.{settles_always}
use Rattle.dm_law_moves.proofs.settle.settles_always.Goals as goal

pub returns : goal.returns
returns c = settles_always
