use Rattle.dm_law_mirror.proofs.Single.{run_is_ran}
use Rattle.dm_law_mirror.proofs.laws.run_is_ran.Goals as goal

pub returns : goal.returns
returns c = run_is_ran
