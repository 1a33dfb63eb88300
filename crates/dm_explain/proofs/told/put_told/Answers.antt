use Rattle.dm_explain.proofs.Names.{append_assoc}
use Rattle.dm_explain.proofs.told.put_told.Goals as goal

pub returns : goal.returns
returns c = rw (c.in_ok-put_line.ensures, c.family_of-family.ensures, append_assoc) at c.put_behind.ensures
