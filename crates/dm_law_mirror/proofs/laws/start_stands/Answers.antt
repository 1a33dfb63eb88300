use Rattle.dm_law_mirror.proofs.Starting.{start_stands}
use Rattle.dm_law_mirror.proofs.laws.start_stands.Goals as goal

pub returns : goal.returns
returns c = start_stands
