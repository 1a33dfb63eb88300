use Rattle.dm_law_alike.proofs.Firsts.{acts_go_first}
use Rattle.dm_law_alike.proofs.laws.acts_go_first.Goals as goal

pub returns : goal.returns
returns c = acts_go_first
