use Rattle.dm_explain.proofs.Names.{append_assoc}
use Rattle.dm_explain.proofs.told.images.put_machine.Goals as goal

pub returns : goal.returns
returns c = rw (c.in_ok-put_numbered.ensures, append_assoc) at c.put_machine_fault.ensures
