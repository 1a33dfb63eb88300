use Rattle.dm_law_runs.proofs.Choices.ByRule.Answered.{least_by_rule}
use Rattle.dm_law_runs.proofs.explore.least_by_rule.Goals as goal

pub returns : goal.returns
returns c = least_by_rule
