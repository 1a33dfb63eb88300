use Rattle.dm_law_moves.proofs.Settles.Rests.EndsStill.{ends_still}
use Rattle.dm_law_moves.proofs.settle.ends_still.Goals as goal

pub returns : goal.returns
returns c = ends_still
