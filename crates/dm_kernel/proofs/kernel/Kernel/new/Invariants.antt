use Rattle.dm_kernel.proofs.Names.{◌≡◌, drop, opened, with_all, kernel_state}
use Rattle.dm_kernel.proofs.Opening.{HasRoomFor}
use Rattle.dm_kernel.proofs.kernel.Kernel.new.Given as goal

abbrev pub invariant-loop-process : goal.invariant-loop-process
invariant-loop-process l =
    record {
      opens : with_all l.boot (kernel_state l.kernel) (drop l.process-index l.process-items) ≡ opened l.boot l.here;
      room : HasRoomFor l.boot l.here (kernel_state l.kernel) (drop l.process-index l.process-items);
    }
