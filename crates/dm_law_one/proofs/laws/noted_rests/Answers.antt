use Rattle.dm_law_one.proofs.Runs.{noted_rests}
use Rattle.dm_law_one.proofs.laws.noted_rests.Goals as goal

pub returns : goal.returns
returns c = noted_rests
