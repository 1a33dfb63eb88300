use Rattle.dm_law_rule.proofs.QuietTests.{quiet_is_tested}
use Rattle.dm_law_rule.proofs.laws.quiet_is_tested.Goals as goal

pub returns : goal.returns
returns c = quiet_is_tested
