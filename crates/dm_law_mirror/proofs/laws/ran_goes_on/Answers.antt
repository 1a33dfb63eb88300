use Rattle.dm_law_mirror.proofs.Given.{ran_goes_on}
use Rattle.dm_law_mirror.proofs.laws.ran_goes_on.Goals as goal

pub returns : goal.returns
returns c = ran_goes_on
