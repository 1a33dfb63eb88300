use Rattle.dm_law_runs.proofs.Choices.SightsSaid.{sights_are_said}
use Rattle.dm_law_runs.proofs.explore.sights_are_said.Goals as goal

pub returns : goal.returns
returns c = sights_are_said
