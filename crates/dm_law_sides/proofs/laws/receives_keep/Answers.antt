use Rattle.dm_law_sides.proofs.Printed.{receives_keep}
use Rattle.dm_law_sides.proofs.laws.receives_keep.Goals as goal

pub returns : goal.returns
returns c = receives_keep
