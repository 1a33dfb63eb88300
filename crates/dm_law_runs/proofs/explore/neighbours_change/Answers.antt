use Rattle.dm_law_runs.proofs.Choices.Neighbours.{neighbours_change}
use Rattle.dm_law_runs.proofs.explore.neighbours_change.Goals as goal

pub returns : goal.returns
returns c = neighbours_change
