use Rattle.std.proofs.Common.{sym, ap, ◌∙◌, arith, length, false}
use Rattle.std.specs.Option.{option_map_or}
use Rattle.dm_kernel.specs.State.{process_in}
use Rattle.dm_node.specs.State.{NodeState}
use Rattle.dm_world.specs.Meets.{world_state}
use Rattle.dm_explore.specs.Sights.{is_lingering}
use Rattle.dm_explore.proofs.Below.{any_below_at}
use Rattle.dm_explore.proofs.sights.lingers_somewhere.Goals as goal

pub returns-then-lingers_at : goal.returns-then-lingers_at
returns-then-lingers_at c =
    sym (any_below_at (length c.args.world.now.boot.machines) (λ m. option_map_or is_lingering (process_in (((world_state c.args.world.now).nodes m).kernel.records c.args.pid)) false) c.loop-m.m (omega arith)
    (ap (λ (n : NodeState). option_map_or is_lingering (process_in (n.kernel.records c.args.pid)) false) (sym c.machine.ensures.state) ∙ (sym c.lingers_at.ensures ∙ c.if-lingers_at.true)))
