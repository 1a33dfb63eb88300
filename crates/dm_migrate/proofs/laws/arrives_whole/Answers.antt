use Rattle.dm_migrate.proofs.Way.{arrives}
use Rattle.dm_migrate.proofs.laws.arrives_whole.Goals as goal

pub returns : goal.returns
returns g = arrives
