use Rattle.dm_law_moves.proofs.Settles.Rests.StaysAtRest.{stays_at_rest}
use Rattle.dm_law_moves.proofs.settle.stays_at_rest.Goals as goal

pub returns : goal.returns
returns c = stays_at_rest
