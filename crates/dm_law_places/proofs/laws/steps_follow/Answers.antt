use Rattle.dm_law_places.proofs.Steps.{steps_follow}
use Rattle.dm_law_places.proofs.laws.steps_follow.Goals as goal

pub returns : goal.returns
returns c = steps_follow
