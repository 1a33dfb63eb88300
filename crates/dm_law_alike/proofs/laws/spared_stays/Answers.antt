use Rattle.dm_law_alike.proofs.Firsts.{spared_stays}
use Rattle.dm_law_alike.proofs.laws.spared_stays.Goals as goal

pub returns : goal.returns
returns c = spared_stays
