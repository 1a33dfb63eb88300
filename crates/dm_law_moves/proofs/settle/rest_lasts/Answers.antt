use Rattle.dm_law_moves.proofs.Settles.Rests.StaysAtRest.{rest_lasts}
use Rattle.dm_law_moves.proofs.settle.rest_lasts.Goals as goal

pub returns : goal.returns
returns c = rest_lasts
