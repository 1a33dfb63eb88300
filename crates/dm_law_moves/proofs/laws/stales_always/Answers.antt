use Rattle.dm_law_moves.proofs.Stales.Always.{stales_always}
use Rattle.dm_law_moves.proofs.laws.stales_always.Goals as goal

pub returns : goal.returns
returns c = stales_always
