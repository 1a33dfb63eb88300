use Rattle.dm_law_moves.proofs.Requested.Always.{answers_are_so}
use Rattle.dm_law_moves.proofs.laws.answers_are_so.Goals as goal

pub returns : goal.returns
returns c = answers_are_so
