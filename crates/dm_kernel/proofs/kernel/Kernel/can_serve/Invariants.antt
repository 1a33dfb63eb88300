use Rattle.dm_kernel.proofs.Names.{◌≡◌, None, take, at, first_runnable}
use Rattle.dm_kernel.proofs.kernel.Kernel.can_serve.Given as goal

-- none of those passed can be served
abbrev pub invariant-loop-place : goal.invariant-loop-place
invariant-loop-place l = first_runnable (at l.self.records) (take l.place l.self.ring) ≡ None
