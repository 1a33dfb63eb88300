use Rattle.dm_law_moves.proofs.Settles.FewSteps.Few.{turns_left_few}
use Rattle.dm_law_moves.proofs.settle.turns_left_few.Goals as goal

pub returns : goal.returns
returns c = turns_left_few
