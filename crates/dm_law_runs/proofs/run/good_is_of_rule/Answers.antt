use Rattle.dm_law_runs.proofs.Leading.{good_is_of_rule}
use Rattle.dm_law_runs.proofs.run.good_is_of_rule.Goals as goal

pub returns : goal.returns
returns c = good_is_of_rule
