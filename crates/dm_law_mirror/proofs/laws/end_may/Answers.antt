use Rattle.dm_law_mirror.proofs.Given.{end_may}
use Rattle.dm_law_mirror.proofs.laws.end_may.Goals as goal

pub returns : goal.returns
returns c = end_may
