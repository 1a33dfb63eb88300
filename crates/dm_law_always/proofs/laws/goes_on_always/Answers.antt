use Rattle.dm_law_always.proofs.RunsAlways.{goes_on_always}
use Rattle.dm_law_always.proofs.laws.goes_on_always.Goals as goal

pub returns : goal.returns
returns c = goes_on_always
