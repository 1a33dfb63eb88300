use Rattle.dm_explain.proofs.Names.{append_assoc}
use Rattle.dm_explain.proofs.told.images.put_image.Goals as goal

pub returns : goal.returns
returns c = rw (c.in_ok-put_image_title.ensures, append_assoc) at c.put_image_fault.ensures
