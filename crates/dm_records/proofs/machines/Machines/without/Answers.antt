use Rattle.dm_records.proofs.Names.{has}
use Rattle.dm_records.proofs.Sets.{has_fewer}
use Rattle.dm_records.proofs.machines.Machines.without.Goals as goal

pub returns : goal.returns
unfolding has
returns c = λ n lt. has_fewer c.args.self.bits c.args.machine n c.requires lt
