use Rattle.dm_records.proofs.Names.{has}
use Rattle.dm_records.proofs.Sets.{has_more}
use Rattle.dm_records.proofs.machines.Machines.with.Goals as goal

pub returns : goal.returns
unfolding has
returns c = λ n. has_more c.args.self.bits c.args.machine n c.requires
