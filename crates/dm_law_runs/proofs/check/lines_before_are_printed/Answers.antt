use Rattle.dm_law_runs.proofs.Traces.Before.{lines_before}
use Rattle.dm_law_runs.proofs.check.lines_before_are_printed.Goals as goal

pub returns : goal.returns
returns c = lines_before
