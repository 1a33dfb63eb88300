use Rattle.dm_law_rule.proofs.Telling.{tells_right_always}
use Rattle.dm_law_rule.proofs.laws.tells_right_always.Goals as goal

pub returns : goal.returns
returns c = tells_right_always
