use Rattle.dm_law_moves.proofs.Stages.Always.{steps_in_order}
use Rattle.dm_law_moves.proofs.laws.steps_in_order.Goals as goal

pub returns : goal.returns
returns c = steps_in_order
