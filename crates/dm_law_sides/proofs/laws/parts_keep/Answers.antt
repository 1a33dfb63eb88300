use Rattle.dm_law_sides.proofs.Files.{parts_keep}
use Rattle.dm_law_sides.proofs.laws.parts_keep.Goals as goal

pub returns : goal.returns
returns c = parts_keep
