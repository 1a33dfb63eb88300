use Rattle.dm_law_moves.proofs.Forwards.Told.{requests_tell}
use Rattle.dm_law_moves.proofs.laws.requests_tell.Goals as goal

pub returns : goal.returns
returns c = requests_tell
