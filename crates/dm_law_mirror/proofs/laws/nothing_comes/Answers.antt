use Rattle.dm_law_mirror.proofs.Local.{nothing_comes}
use Rattle.dm_law_mirror.proofs.laws.nothing_comes.Goals as goal

pub returns : goal.returns
returns c = nothing_comes
