use Rattle.dm_law_alike.proofs.Firsts.{own_are_acts}
use Rattle.dm_law_alike.proofs.laws.own_are_acts.Goals as goal

pub returns : goal.returns
returns c = own_are_acts
