use Rattle.dm_law_rule.proofs.RestTests.{rest_is_tested}
use Rattle.dm_law_rule.proofs.laws.rest_is_tested.Goals as goal

pub returns : goal.returns
returns c = rest_is_tested
