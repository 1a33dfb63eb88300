use Rattle.dm_law_moves.proofs.Requested.Always.{moves_as_named}
use Rattle.dm_law_moves.proofs.laws.moves_as_named.Goals as goal

pub returns : goal.returns
returns c = moves_as_named
