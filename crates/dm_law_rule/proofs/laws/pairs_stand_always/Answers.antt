use Rattle.dm_law_rule.proofs.Pairs.{pairs_stand_always}
use Rattle.dm_law_rule.proofs.laws.pairs_stand_always.Goals as goal

pub returns : goal.returns
returns c = pairs_stand_always
