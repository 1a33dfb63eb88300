use Rattle.dm_law_moves.proofs.CountsStay.{counts_kept}
use Rattle.dm_law_moves.proofs.laws.counts_kept.Goals as goal

pub returns : goal.returns
returns c = counts_kept
