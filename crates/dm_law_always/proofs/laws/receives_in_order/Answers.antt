use Rattle.dm_law_always.proofs.RunsAlways.{receives_in_order}
use Rattle.dm_law_always.proofs.laws.receives_in_order.Goals as goal

pub returns : goal.returns
returns c = receives_in_order
