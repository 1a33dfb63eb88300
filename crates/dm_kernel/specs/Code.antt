-- The state of the kernel of the code.
use Rattle.dm_records.specs.Records.{at, pred_at}
use Rattle.dm_kernel.specs.declared.kernel.Kernel.{Kernel}
use Rattle.dm_kernel.specs.State.{KernelState}

abbrev pub kernel_state : Kernel → KernelState
kernel_state k = record { here = k.here; records = at k.records; preds = pred_at k.records; ring = k.ring; inbox = k.inbox; made = k.made; sent = k.sent; room = k.room; over = k.over }
