use Rattle.dm_law_places.proofs.Frames.{steps_change_little}
use Rattle.dm_law_places.proofs.laws.steps_change_little.Goals as goal

pub returns : goal.returns
returns c = steps_change_little
