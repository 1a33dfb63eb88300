use Rattle.dm_explain.proofs.Pieces.{append_three}
use Rattle.dm_explain.proofs.told.programs.put_refused_line.Goals as goal

pub returns : goal.returns
returns c = rw (c.in_ok-put_line.ensures, c.in_ok-put_title.ensures, append_three) at c.put.ensures
