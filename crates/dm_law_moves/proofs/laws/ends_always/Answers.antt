use Rattle.dm_law_moves.proofs.Ends.Always.{ends_always}
use Rattle.dm_law_moves.proofs.laws.ends_always.Goals as goal

pub returns : goal.returns
returns c = ends_always
