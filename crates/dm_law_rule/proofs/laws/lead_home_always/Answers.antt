use Rattle.dm_law_rule.proofs.Homes.Turns.{lead_home_always}
use Rattle.dm_law_rule.proofs.laws.lead_home_always.Goals as goal

pub returns : goal.returns
returns c = lead_home_always
