use Rattle.dm_law_moves.proofs.Real.Always.{real_always}
use Rattle.dm_law_moves.proofs.laws.real_always.Goals as goal

pub returns : goal.returns
returns c = real_always
