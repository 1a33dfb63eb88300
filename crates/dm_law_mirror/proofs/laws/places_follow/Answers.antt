use Rattle.dm_law_mirror.proofs.Given.{places_follow}
use Rattle.dm_law_mirror.proofs.laws.places_follow.Goals as goal

pub returns : goal.returns
returns c = places_follow
