use Rattle.dm_law_runs.proofs.SettleFew.{settle_few}
use Rattle.dm_law_runs.proofs.run.settle_few.Goals as goal

pub returns : goal.returns
returns c = settle_few
