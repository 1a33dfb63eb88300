use Rattle.dm_law_moves.proofs.LifeLines.{lives_are_said}
use Rattle.dm_law_moves.proofs.laws.lives_are_said.Goals as goal

pub returns : goal.returns
returns c = lives_are_said
