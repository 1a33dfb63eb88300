use Rattle.dm_shape.proofs.ShapeLaws.{ends_have}
use Rattle.dm_shape.proofs.laws.ends_have_shapes.Goals as goal

pub returns : goal.returns
returns c = ends_have
