use Rattle.std.proofs.Common.{sym, ap, ◌∙◌, arith, length, not}
use Rattle.dm_world.specs.Meets.{world_state}
use Rattle.dm_explore.specs.Sights.{world_acts}
use Rattle.dm_explore.proofs.Below.{any_below_at}
use Rattle.dm_explore.proofs.finds.none_acts.Goals as goal

pub returns-then-acts : goal.returns-then-acts
returns-then-acts c = sym (ap not (any_below_at (length c.args.world.now.boot.machines) (world_acts (world_state c.args.world.now)) c.loop-m.m (omega arith) (sym c.acts.ensures ∙ c.if-acts.true)))
