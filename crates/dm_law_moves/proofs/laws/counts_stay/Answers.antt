use Rattle.dm_law_moves.proofs.CountsStay.{counts_stay}
use Rattle.dm_law_moves.proofs.laws.counts_stay.Goals as goal

pub returns : goal.returns
returns c = counts_stay
