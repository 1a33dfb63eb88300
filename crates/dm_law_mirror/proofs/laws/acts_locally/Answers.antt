use Rattle.dm_law_mirror.proofs.Staying.{kernel_stays}
use Rattle.dm_law_mirror.proofs.Local.{acts_locally}
use Rattle.dm_law_mirror.proofs.laws.acts_locally.Goals as goal

pub returns : goal.returns
returns c = acts_locally kernel_stays
