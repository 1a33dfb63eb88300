use Rattle.dm_law_rule.proofs.Apart.Groups.{moving_stays_always}
use Rattle.dm_law_rule.proofs.laws.moving_stays_always.Goals as goal

pub returns : goal.returns
returns c = moving_stays_always
