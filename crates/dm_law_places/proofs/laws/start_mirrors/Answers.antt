use Rattle.dm_law_places.proofs.Starts.{start_mirrors}
use Rattle.dm_law_places.proofs.laws.start_mirrors.Goals as goal

pub returns : goal.returns
returns c = start_mirrors
