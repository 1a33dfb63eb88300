use Rattle.dm_law_runs.proofs.Still.{good_in_order}
use Rattle.dm_law_runs.proofs.run.good_in_order.Goals as goal

pub returns : goal.returns
returns c = good_in_order
