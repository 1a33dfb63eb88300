use Rattle.dm_law_mirror.proofs.Given.{run_goes_on}
use Rattle.dm_law_mirror.proofs.laws.run_goes_on.Goals as goal

pub returns : goal.returns
returns c = run_goes_on
