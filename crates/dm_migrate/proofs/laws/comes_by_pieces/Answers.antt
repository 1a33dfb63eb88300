use Rattle.dm_migrate.proofs.Way.{comes_whole}
use Rattle.dm_migrate.proofs.laws.comes_by_pieces.Goals as goal

pub returns : goal.returns
returns g = comes_whole
