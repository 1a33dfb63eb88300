use Rattle.dm_law_runs.proofs.Away.{away_while_open}
use Rattle.dm_law_runs.proofs.run.away_while_open.Goals as goal

pub returns : goal.returns
returns c = away_while_open
