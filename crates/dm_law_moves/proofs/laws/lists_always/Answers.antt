use Rattle.dm_law_moves.proofs.Lists.Always.{lists_always}
use Rattle.dm_law_moves.proofs.laws.lists_always.Goals as goal

pub returns : goal.returns
returns c = lists_always
