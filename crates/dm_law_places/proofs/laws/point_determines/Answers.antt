use Rattle.dm_law_places.proofs.Determined.{point_determines}
use Rattle.dm_law_places.proofs.laws.point_determines.Goals as goal

pub returns : goal.returns
returns c = point_determines
