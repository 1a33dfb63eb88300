use Rattle.dm_law_moves.proofs.Settles.Rests.StillAlways.{still_always}
use Rattle.dm_law_moves.proofs.settle.still_always.Goals as goal

pub returns : goal.returns
returns c = still_always
