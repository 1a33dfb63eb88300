use Rattle.dm_law_moves.proofs.Lists.Always.{lists_for_theirs}
use Rattle.dm_law_moves.proofs.laws.lists_for_theirs.Goals as goal

pub returns : goal.returns
returns c = lists_for_theirs
