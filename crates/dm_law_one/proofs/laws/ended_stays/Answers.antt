use Rattle.dm_law_one.proofs.Runs.{ended_stays}
use Rattle.dm_law_one.proofs.laws.ended_stays.Goals as goal

pub returns : goal.returns
returns c = ended_stays
