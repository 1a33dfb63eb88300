use Rattle.dm_explain.proofs.Names.{append_assoc}
use Rattle.dm_explain.proofs.schedule.put_wrong_count.Goals as goal

pub returns : goal.returns
returns c = rw (c.in_ok-put_said.ensures, append_assoc) at c.put_count.ensures
