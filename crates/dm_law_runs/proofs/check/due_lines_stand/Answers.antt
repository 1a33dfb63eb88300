use Rattle.dm_law_runs.proofs.Traces.DueLines.{due_lines}
use Rattle.dm_law_runs.proofs.check.due_lines_stand.Goals as goal

pub returns : goal.returns
returns c = due_lines
