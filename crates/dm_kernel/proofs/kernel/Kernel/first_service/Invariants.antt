use Rattle.dm_kernel.proofs.Names.{◌≡◌, None, take, at, kernel_state, first_runnable}
use Rattle.dm_kernel.proofs.kernel.Kernel.first_service.Given as goal

abbrev pub invariant-loop-place : goal.invariant-loop-place
invariant-loop-place l =
    record {
      unchanged : kernel_state l.self ≡ kernel_state l.fn.self;
      none : first_runnable (at l.self.records) (take l.place l.self.ring) ≡ None;
    }
