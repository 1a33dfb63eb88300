use Rattle.dm_law_alike.proofs.Closing.{closed_is_never}
use Rattle.dm_law_alike.proofs.laws.closed_is_never.Goals as goal

pub returns : goal.returns
returns c = closed_is_never
