use Rattle.dm_law_mirror.proofs.Going.{run_begins}
use Rattle.dm_law_mirror.proofs.laws.run_begins.Goals as goal

pub returns : goal.returns
returns c = run_begins
