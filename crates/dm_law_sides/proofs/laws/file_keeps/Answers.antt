use Rattle.dm_law_sides.proofs.Files.{file_keeps}
use Rattle.dm_law_sides.proofs.laws.file_keeps.Goals as goal

pub returns : goal.returns
returns c = file_keeps
