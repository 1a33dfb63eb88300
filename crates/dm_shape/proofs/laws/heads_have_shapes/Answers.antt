use Rattle.dm_shape.proofs.ShapeLaws.{heads_have}
use Rattle.dm_shape.proofs.laws.heads_have_shapes.Goals as goal

pub returns : goal.returns
returns c = heads_have
