use Rattle.dm_law_sides.proofs.Printed.{creates_keep}
use Rattle.dm_law_sides.proofs.laws.creates_keep.Goals as goal

pub returns : goal.returns
returns c = creates_keep
