use Rattle.dm_law_sides.proofs.Printed.{takes_keep}
use Rattle.dm_law_sides.proofs.laws.takes_keep.Goals as goal

pub returns : goal.returns
returns c = takes_keep
