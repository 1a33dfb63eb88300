use Rattle.dm_explain.proofs.Names.{append_assoc}
use Rattle.dm_explain.proofs.schedule.put_out_of_range.Goals as goal

pub returns : goal.returns
returns c = rw (c.bad_operand.ensures, c.in_ok-put_said.ensures, append_assoc) at c.put_range.ensures
