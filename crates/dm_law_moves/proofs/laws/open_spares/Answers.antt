use Rattle.dm_law_moves.proofs.Open.Apart.{open_spares}
use Rattle.dm_law_moves.proofs.laws.open_spares.Goals as goal

pub returns : goal.returns
returns c = open_spares
