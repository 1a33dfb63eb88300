use Rattle.dm_parts.proofs.Right.{links_keep_to_parts}
use Rattle.dm_parts.proofs.laws.links_keep_to_parts.Goals as goal

pub returns : goal.returns
returns c = links_keep_to_parts
