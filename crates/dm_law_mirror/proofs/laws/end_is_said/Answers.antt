use Rattle.dm_law_mirror.proofs.Given.{end_is_said}
use Rattle.dm_law_mirror.proofs.laws.end_is_said.Goals as goal

pub returns : goal.returns
returns c = end_is_said
