use Rattle.dm_law_moves.proofs.Settles.Rests.RestsAlways.{pairs_rest_always}
use Rattle.dm_law_moves.proofs.settle.pairs_rest_always.Goals as goal

pub returns : goal.returns
returns c = pairs_rest_always
