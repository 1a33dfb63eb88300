use Rattle.dm_law_moves.proofs.Forwards.Told.{forwards_tell}
use Rattle.dm_law_moves.proofs.laws.forwards_tell.Goals as goal

pub returns : goal.returns
returns c = forwards_tell
