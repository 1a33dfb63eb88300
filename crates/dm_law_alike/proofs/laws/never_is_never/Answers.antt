use Rattle.dm_law_alike.proofs.Never.{never_is_never}
use Rattle.dm_law_alike.proofs.laws.never_is_never.Goals as goal

pub returns : goal.returns
returns c = never_is_never
