use Rattle.dm_records.proofs.Names.{refl, has}
use Rattle.dm_records.proofs.machines.Machines.has.Goals as goal

pub returns : goal.returns
unfolding has
returns c = refl
