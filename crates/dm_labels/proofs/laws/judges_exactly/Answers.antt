use Rattle.dm_labels.proofs.Exactly.{judges_exactly}
use Rattle.dm_labels.proofs.laws.judges_exactly.Goals as goal

pub returns : goal.returns
returns c = judges_exactly
