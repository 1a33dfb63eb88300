use Rattle.dm_law_moves.proofs.Settles.Rests.EndsResting.{ends_resting}
use Rattle.dm_law_moves.proofs.settle.ends_resting.Goals as goal

pub returns : goal.returns
returns c = ends_resting
