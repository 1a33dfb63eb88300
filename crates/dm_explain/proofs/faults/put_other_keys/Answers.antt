use Rattle.dm_explain.proofs.Names.{append_assoc}
use Rattle.dm_explain.proofs.faults.put_other_keys.Goals as goal

pub returns : goal.returns
returns c = rw (c.in_ok-put_keys.ensures, c.in_ok-put.ensures, append_assoc, append_assoc, c.unknown_key.ensures) at c.put_unknown.ensures
