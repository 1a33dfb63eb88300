-- A turn leaves a kernel on its machine.
use Rattle.dm_law_mirror.proofs.Names.{subst, StaysAt, turn_stays}
use Rattle.dm_law_mirror.proofs.Local.{KernelStays}

pub kernel_stays : KernelStays
kernel_stays b k t e = subst (StaysAt k.here) e (turn_stays b k)
