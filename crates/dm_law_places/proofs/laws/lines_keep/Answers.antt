use Rattle.dm_law_places.proofs.Lines.{lines_keep}
use Rattle.dm_law_places.proofs.laws.lines_keep.Goals as goal

pub returns : goal.returns
returns c = lines_keep
