use Rattle.dm_explain.proofs.Names.{append_assoc, wish_told}
use Rattle.dm_explain.proofs.faults.put_wish.Goals as goal

pub returns : goal.returns
unfolding wish_told
returns c = rw (c.in_ok-put_parts.ensures, c.words.ensures, append_assoc) at c.put_absence.ensures
