use Rattle.dm_law_always.proofs.Decided.{shorter_begins}
use Rattle.dm_law_always.proofs.laws.shorter_begins.Goals as goal

pub returns : goal.returns
returns c = shorter_begins
