use Rattle.dm_law_alike.proofs.Runs.{runs_are_twins}
use Rattle.dm_law_alike.proofs.laws.runs_are_twins.Goals as goal

pub returns : goal.returns
returns c = runs_are_twins
