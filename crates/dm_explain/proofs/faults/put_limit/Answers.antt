use Rattle.dm_explain.proofs.Names.{limit_told}
use Rattle.dm_explain.proofs.faults.put_limit.Goals as goal

pub returns : goal.returns
unfolding limit_told
returns c = rw c.integer_at.ensures at c.put_parts.ensures
