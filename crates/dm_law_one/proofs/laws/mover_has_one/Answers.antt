use Rattle.dm_law_one.proofs.Runs.{mover_has_one}
use Rattle.dm_law_one.proofs.laws.mover_has_one.Goals as goal

pub returns : goal.returns
returns c = mover_has_one
