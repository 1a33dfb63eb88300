use Rattle.dm_law_moves.proofs.NumbersAlways.{numbers_always}
use Rattle.dm_law_moves.proofs.laws.numbers_always.Goals as goal

pub returns : goal.returns
returns c = numbers_always
