use Rattle.dm_explain.proofs.Names.{append_assoc}
use Rattle.dm_explain.proofs.told.processes.put_process.Goals as goal

pub returns : goal.returns
returns c = rw (c.in_ok-put_process_title.ensures, append_assoc) at c.put_process_fault.ensures
