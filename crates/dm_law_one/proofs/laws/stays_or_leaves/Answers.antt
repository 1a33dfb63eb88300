use Rattle.dm_law_one.proofs.Runs.{stays_or_leaves}
use Rattle.dm_law_one.proofs.laws.stays_or_leaves.Goals as goal

pub returns : goal.returns
returns c = stays_or_leaves
