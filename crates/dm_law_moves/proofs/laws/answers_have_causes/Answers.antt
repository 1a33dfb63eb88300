use Rattle.dm_law_moves.proofs.Asked.Causes.{answers_have_causes}
use Rattle.dm_law_moves.proofs.laws.answers_have_causes.Goals as goal

pub returns : goal.returns
returns c = answers_have_causes
