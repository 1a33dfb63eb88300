use Rattle.dm_law_always.proofs.Taken.{taken_once}
use Rattle.dm_law_always.proofs.laws.taken_once.Goals as goal

pub returns : goal.returns
returns c = taken_once
