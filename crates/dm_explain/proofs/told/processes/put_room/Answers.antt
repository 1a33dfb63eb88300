use Rattle.dm_explain.proofs.told.processes.put_room.Goals as goal

pub returns : goal.returns
returns c = rw (c.integer_at.ensures, c.integer_at-2.ensures) at c.put_parts.ensures
