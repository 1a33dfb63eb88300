use Rattle.dm_law_moves.proofs.Settles.Rests.EndsAtRest.{ends_at_rest}
use Rattle.dm_law_moves.proofs.settle.ends_at_rest.Goals as goal

pub returns : goal.returns
returns c = ends_at_rest
