use Rattle.dm_law_runs.proofs.Traces.Runs.{beginnings_open}
use Rattle.dm_law_runs.proofs.check.beginnings_are_open.Goals as goal

pub returns : goal.returns
returns c = beginnings_open
