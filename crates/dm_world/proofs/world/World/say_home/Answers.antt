use Rattle.dm_world.proofs.Names.{◌+◌, first_number, pid_of, process_lines, world_state}
use Rattle.dm_world.proofs.Ending.{said_more}
use Rattle.dm_world.proofs.world.World.say_home.Goals as goal

pub loop-place-preserved : goal.loop-place-preserved
loop-place-preserved c =
    said_more (λ k. process_lines c.args.self.now.boot (world_state c.args.self.now) (pid_of c.args.home (first_number + k))) c.loop-place.place _ _ _ c.loop-place.invariant c.in_ok-say_process.ensures
