use Rattle.dm_law_runs.proofs.Choices.ByRule.Answered.{sound_by_rule}
use Rattle.dm_law_runs.proofs.explore.sound_by_rule.Goals as goal

pub returns : goal.returns
returns c = sound_by_rule
