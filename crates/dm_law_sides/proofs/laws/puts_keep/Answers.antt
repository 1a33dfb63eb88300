use Rattle.dm_law_sides.proofs.Printed.{puts_keep}
use Rattle.dm_law_sides.proofs.laws.puts_keep.Goals as goal

pub returns : goal.returns
returns c = puts_keep
