use Rattle.dm_law_sides.proofs.Files.{files_keep_to_sides}
use Rattle.dm_law_sides.proofs.laws.files_keep_to_sides.Goals as goal

pub returns : goal.returns
returns c = files_keep_to_sides
