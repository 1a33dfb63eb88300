use Rattle.dm_law_moves.proofs.Settles.RestHas.{rests_always}
use Rattle.dm_law_moves.proofs.settle.rests_always.Goals as goal

pub returns : goal.returns
returns c = rests_always
