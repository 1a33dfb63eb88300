use Rattle.dm_shape.proofs.ShapeLaws.{heads_read}
use Rattle.dm_shape.proofs.laws.heads_are_read.Goals as goal

pub returns : goal.returns
returns c = heads_read
