use Rattle.dm_law_alike.proofs.Again.{twins_of_twins}
use Rattle.dm_law_alike.proofs.laws.twins_of_twins.Goals as goal

pub returns : goal.returns
returns c = twins_of_twins
