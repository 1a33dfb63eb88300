use Rattle.dm_world.proofs.Names.{length, queue_of, world_state}
use Rattle.dm_world.proofs.Ending.{home_more}
use Rattle.dm_world.proofs.world.World.say_queues.Goals as goal

pub loop-home-preserved : goal.loop-home-preserved
loop-home-preserved c =
    let w = world_state c.args.self.now in
    let machines = length c.args.self.now.boot.machines in
    home_more w (queue_of machines w) c.loop-home.home _ _ _ c.loop-home.invariant c.in_ok-say_home_queues.ensures
