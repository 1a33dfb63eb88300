use Rattle.dm_records.proofs.Names.{◌==◌, ap, bit_at-zero, has}
use Rattle.dm_records.proofs.machines.Machines.none.Goals as goal

pub returns : goal.returns
unfolding has
returns c = λ n. ap (λ b. b == 1) (bit_at-zero n)
