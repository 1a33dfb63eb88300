use Rattle.dm_explain.proofs.Pieces.{append_three}
unfoldable use Rattle.dm_explain.specs.Schedules.{said}
use Rattle.dm_explain.proofs.told.refused.put_known.Goals as goal

pub returns : goal.returns
unfolding said
returns c = rw (c.in_ok-put_line.ensures, c.in_ok-put_why.ensures, append_three) at c.put_detail.ensures
