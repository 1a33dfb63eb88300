use Rattle.std.proofs.Common.{sym, ap, ◌∙◌, arith, length, is_some}
use Rattle.dm_onekernel.specs.Boot.{manager}
use Rattle.dm_kernel.specs.State.{manager_in}
use Rattle.dm_kernel.specs.Meets.{kernel_state}
use Rattle.dm_kernel.specs.declared.kernel.Kernel.{Kernel}
use Rattle.dm_node.specs.State.{NodeState}
use Rattle.dm_world.specs.Meets.{world_state}
use Rattle.dm_explore.proofs.Below.{seat_found}
use Rattle.dm_explore.proofs.sights.seat.Goals as goal

pub returns-then-has_manager : goal.returns-then-has_manager
returns-then-has_manager c =
    seat_found (world_state c.args.world.now).nodes (length c.args.world.now.boot.machines) c.loop-m.m (omega arith) c.loop-m.invariant
    (ap (λ (n : NodeState). is_some (manager_in (n.kernel.records manager))) (sym c.machine.ensures.state)
    ∙ (ap (λ (k : Kernel). is_some (manager_in ((kernel_state k).records manager))) (sym c.kernel.ensures) ∙ (sym c.has_manager.ensures ∙ c.if-has_manager.true)))
