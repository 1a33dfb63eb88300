use Rattle.dm_parts.proofs.Right.{parts_are_finest}
use Rattle.dm_parts.proofs.laws.parts_are_finest.Goals as goal

pub returns : goal.returns
returns c = parts_are_finest
