use Rattle.dm_law_sides.proofs.Runs.{keeps_to_sides}
use Rattle.dm_law_sides.proofs.laws.keeps_to_sides.Goals as goal

pub returns : goal.returns
returns c = keeps_to_sides
