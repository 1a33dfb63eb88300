use Rattle.dm_law_runs.proofs.Traces.Runs.{runs_ended}
use Rattle.dm_law_runs.proofs.check.runs_are_ended.Goals as goal

pub returns : goal.returns
returns c = runs_ended
