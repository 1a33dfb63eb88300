use Rattle.dm_law_mirror.proofs.Given.{steps_stand}
use Rattle.dm_law_mirror.proofs.laws.steps_stand.Goals as goal

pub returns : goal.returns
returns c = steps_stand
