use Rattle.dm_law_moves.proofs.Asked.Said.{moved_is_said}
use Rattle.dm_law_moves.proofs.laws.moved_is_said.Goals as goal

pub returns : goal.returns
returns c = moved_is_said
