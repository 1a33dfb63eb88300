use Rattle.dm_law_rule.proofs.Groups.{stands_once_always}
use Rattle.dm_law_rule.proofs.laws.stands_once_always.Goals as goal

pub returns : goal.returns
returns c = stands_once_always
