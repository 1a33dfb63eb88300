use Rattle.std.proofs.Common.{sym, ap, ◌∙◌, arith, length, not}
use Rattle.dm_explore.specs.Finds.{waits_from}
use Rattle.dm_explore.specs.Offered.{sight_of}
use Rattle.dm_explore.proofs.Below.{any_below_at}
use Rattle.dm_explore.proofs.finds.none_waits.Goals as goal

pub returns-then-waits_from : goal.returns-then-waits_from
returns-then-waits_from c =
    sym (ap not (any_below_at (length c.args.world.now.boot.machines) (waits_from (length c.args.world.now.boot.machines) (sight_of c.args.world.now)) c.loop-m.m (omega arith) (sym c.waits_from.ensures ∙ c.if-waits_from.true)))
