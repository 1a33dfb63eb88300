use Rattle.dm_law_always.proofs.RunsAlways.{known_always}
use Rattle.dm_law_always.proofs.laws.known_always.Goals as goal

pub returns : goal.returns
returns c = known_always
