use Rattle.dm_law_runs.proofs.Choices.ByRule.Answered.{none_by_rule}
use Rattle.dm_law_runs.proofs.explore.none_by_rule.Goals as goal

pub returns : goal.returns
returns c = none_by_rule
