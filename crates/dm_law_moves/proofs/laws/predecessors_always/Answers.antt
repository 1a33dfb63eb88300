use Rattle.dm_law_moves.proofs.Preds.Always.{predecessors_always}
use Rattle.dm_law_moves.proofs.laws.predecessors_always.Goals as goal

pub returns : goal.returns
returns c = predecessors_always
