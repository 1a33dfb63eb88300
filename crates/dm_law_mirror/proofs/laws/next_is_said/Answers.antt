use Rattle.dm_law_mirror.proofs.Next.{next_is_said}
use Rattle.dm_law_mirror.proofs.laws.next_is_said.Goals as goal

pub returns : goal.returns
returns c = next_is_said
