use Rattle.dm_law_rule.proofs.Phases.Always.{phases_always}
use Rattle.dm_law_rule.proofs.laws.phases_always.Goals as goal

pub returns : goal.returns
returns c = phases_always
