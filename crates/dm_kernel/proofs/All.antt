-- The processes of a list, one after the other.
use Rattle.std.specs.Prelude.{List, fold, slice_get}
use Rattle.dm_onekernel.specs.declared.boot.BootProcess.{BootProcess}
use Rattle.dm_onekernel.specs.declared.boot.Boot.{Boot}
use Rattle.dm_kernel.specs.Begun.{begins_process}
use Rattle.dm_kernel.specs.State.{KernelState}

abbrev pub with_all : Boot → KernelState → List BootProcess → KernelState
with_all b s ps = fold (λ s p. begins_process b s p (slice_get b.images p.image)) s ps
