use Rattle.dm_explain.proofs.Names.{append_assoc}
use Rattle.dm_explain.proofs.told.images.put_size.Goals as goal

pub returns : goal.returns
returns c = rw (c.in_ok-put_titled.ensures, c.as_bytes.ensures.bytes, c.integer_at.ensures, append_assoc) at c.put_parts.ensures
