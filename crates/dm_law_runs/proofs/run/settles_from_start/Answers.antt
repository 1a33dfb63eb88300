use Rattle.dm_law_runs.proofs.SettleFew.{settles_from_start}
use Rattle.dm_law_runs.proofs.run.settles_from_start.Goals as goal

pub returns : goal.returns
returns c = settles_from_start
