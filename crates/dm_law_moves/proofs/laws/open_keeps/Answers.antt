use Rattle.dm_law_moves.proofs.Open.Stays.{open_keeps}
use Rattle.dm_law_moves.proofs.laws.open_keeps.Goals as goal

pub returns : goal.returns
returns c = open_keeps
