use Rattle.dm_law_sides.proofs.Printed.{lines_keep}
use Rattle.dm_law_sides.proofs.laws.lines_keep.Goals as goal

pub returns : goal.returns
returns c = lines_keep
