use Rattle.dm_law_runs.proofs.Traces.Runs.{traces_good}
use Rattle.dm_law_runs.proofs.check.traces_are_good.Goals as goal

pub returns : goal.returns
returns c = traces_good
