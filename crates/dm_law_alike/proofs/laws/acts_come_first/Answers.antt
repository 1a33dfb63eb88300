use Rattle.dm_law_alike.proofs.Firsts.{acts_come_first}
use Rattle.dm_law_alike.proofs.laws.acts_come_first.Goals as goal

pub returns : goal.returns
returns c = acts_come_first
