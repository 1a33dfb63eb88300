use Rattle.dm_law_mirror.proofs.Single.{ran_begins}
use Rattle.dm_law_mirror.proofs.laws.ran_begins.Goals as goal

pub returns : goal.returns
returns c = ran_begins
