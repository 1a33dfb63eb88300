use Rattle.dm_explain.proofs.Pieces.{append_three}
unfoldable use Rattle.dm_explain.specs.SystemParts.{part_told}
use Rattle.dm_explain.proofs.system_parts.put_part.Goals as goal

pub returns : goal.returns
unfolding part_told
returns c = rw (c.in_ok-put_members.ensures, c.in_ok-put_named.ensures, append_three) at c.put.ensures
