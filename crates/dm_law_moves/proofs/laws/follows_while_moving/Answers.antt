use Rattle.dm_law_moves.proofs.Asked.Following.{follows_while_moving}
use Rattle.dm_law_moves.proofs.laws.follows_while_moving.Goals as goal

pub returns : goal.returns
returns c = follows_while_moving
