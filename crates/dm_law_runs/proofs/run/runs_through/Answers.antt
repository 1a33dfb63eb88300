use Rattle.dm_law_runs.proofs.Through.{runs_through}
use Rattle.dm_law_runs.proofs.run.runs_through.Goals as goal

pub returns : goal.returns
returns c = runs_through
