use Rattle.dm_law_mirror.proofs.Staying.{kernel_stays}
use Rattle.dm_law_mirror.proofs.Local.{reads_locally}
use Rattle.dm_law_mirror.proofs.laws.reads_locally.Goals as goal

pub returns : goal.returns
returns c = reads_locally kernel_stays
