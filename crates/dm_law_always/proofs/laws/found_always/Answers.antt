use Rattle.dm_law_always.proofs.RunsAlways.{found_always}
use Rattle.dm_law_always.proofs.laws.found_always.Goals as goal

pub returns : goal.returns
returns c = found_always
