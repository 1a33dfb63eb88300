use Rattle.dm_law_moves.proofs.Promise.Always.{promises_always}
use Rattle.dm_law_moves.proofs.laws.promises_always.Goals as goal

pub returns : goal.returns
returns c = promises_always
