use Rattle.dm_world.proofs.Names.{world_state}
use Rattle.dm_world.proofs.Alone.{alone}
use Rattle.dm_world.proofs.Nodes.{all_here, few_machines}
use Rattle.dm_world.proofs.world.World.step.Goals as goal

pub returns-in-Ok-clause-alone : goal.returns-in-Ok-clause-alone
returns-in-Ok-clause-alone c =
    let old = c.args.self.now in
    alone old.boot (world_state old) (world_state c.act.new.self) c.args.step.now c.in-Ok.lines.items c.requires.world.valid.images (few_machines old c.requires.world) (all_here old c.requires.world) c.requires.may c.in-Ok.ensures.meets.answers

pub returns-in-Err-clause-meets : goal.returns-in-Err-clause-meets
returns-in-Err-clause-meets c =
    let h = c.in-Err.ensures.meets in
    record { answers = h.answers; world = h.world; again = h.again; whole = h.whole; boot = h.boot }
