use Rattle.dm_shape.proofs.ShapeLaws.{lines_have}
use Rattle.dm_shape.proofs.laws.lines_have_shapes.Goals as goal

pub returns : goal.returns
returns c = lines_have
