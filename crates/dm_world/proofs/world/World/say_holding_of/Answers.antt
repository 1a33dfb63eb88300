use Rattle.dm_world.proofs.Names.{◌+◌, first_number, held_line, pid_of, world_state}
use Rattle.dm_world.proofs.Ending.{said_more}
use Rattle.dm_world.proofs.world.World.say_holding_of.Goals as goal

pub loop-place-preserved : goal.loop-place-preserved
loop-place-preserved c =
    said_more (λ k. held_line (world_state c.args.self.now) c.args.m (pid_of c.args.home (first_number + k))) c.loop-place.place _ _ _ c.loop-place.invariant c.in_ok-say_held.ensures
