use Rattle.dm_law_sides.proofs.Files.{runs_keep_to_parts}
use Rattle.dm_law_sides.proofs.laws.runs_keep_to_parts.Goals as goal

pub returns : goal.returns
returns c = runs_keep_to_parts
