use Rattle.dm_world.proofs.Names.{◌+◌, length, first_number, pid_of, queue_of, world_state}
use Rattle.dm_world.proofs.Ending.{said_more}
use Rattle.dm_world.proofs.world.World.say_home_queues.Goals as goal

pub loop-place-preserved : goal.loop-place-preserved
loop-place-preserved c =
    let machines = length c.args.self.now.boot.machines in
    said_more (λ k. queue_of machines (world_state c.args.self.now) (pid_of c.args.home (first_number + k))) c.loop-place.place _ _ _ c.loop-place.invariant c.in_ok-say_queue.ensures
