use Rattle.dm_law_mirror.proofs.Next.{rest_is_said}
use Rattle.dm_law_mirror.proofs.laws.rest_is_said.Goals as goal

pub returns : goal.returns
returns c = rest_is_said
