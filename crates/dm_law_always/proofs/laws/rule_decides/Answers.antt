use Rattle.dm_law_always.proofs.Decided.{rule_decides}
use Rattle.dm_law_always.proofs.laws.rule_decides.Goals as goal

pub returns : goal.returns
returns c = rule_decides
