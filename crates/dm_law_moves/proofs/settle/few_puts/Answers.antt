use Rattle.dm_law_moves.proofs.Settles.FewSteps.FewPuts.{few_puts}
use Rattle.dm_law_moves.proofs.settle.few_puts.Goals as goal

pub returns : goal.returns
returns c = few_puts
