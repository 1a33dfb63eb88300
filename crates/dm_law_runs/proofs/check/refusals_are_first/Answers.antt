use Rattle.dm_law_runs.proofs.Traces.First.{refusals_first}
use Rattle.dm_law_runs.proofs.check.refusals_are_first.Goals as goal

pub returns : goal.returns
returns c = refusals_first
