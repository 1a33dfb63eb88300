use Rattle.dm_explain.proofs.Pieces.{append_three}
use Rattle.dm_explain.proofs.schedule.put_line.Goals as goal

pub returns : goal.returns
returns c = rw (c.number_note.ensures, c.in_ok-put_fault.ensures, c.schedule_line.ensures, c.in_ok-put_parts.ensures, c.number.ensures, append_three) at c.put_parts-2.ensures
