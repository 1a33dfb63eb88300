use Rattle.dm_law_moves.proofs.Settles.Rests.EndsRested.{ends_rested_so}
use Rattle.dm_law_moves.proofs.settle.ends_rested.Goals as goal

pub returns : goal.returns
returns c = ends_rested_so
