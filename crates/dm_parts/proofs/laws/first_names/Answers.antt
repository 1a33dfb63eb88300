use Rattle.dm_parts.proofs.Right.{first_names}
use Rattle.dm_parts.proofs.laws.first_names.Goals as goal

pub returns : goal.returns
returns c = first_names
