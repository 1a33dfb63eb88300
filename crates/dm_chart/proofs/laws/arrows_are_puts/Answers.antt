use Rattle.dm_chart.proofs.Arrows.{of-shapes}
use Rattle.dm_chart.proofs.laws.arrows_are_puts.Goals as goal

pub returns : goal.returns
returns c = of-shapes
