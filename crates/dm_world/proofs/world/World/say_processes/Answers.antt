use Rattle.dm_world.proofs.Names.{process_lines, world_state}
use Rattle.dm_world.proofs.Ending.{home_more}
use Rattle.dm_world.proofs.world.World.say_processes.Goals as goal

pub loop-home-preserved : goal.loop-home-preserved
loop-home-preserved c =
    let w = world_state c.args.self.now in
    home_more w (process_lines c.args.self.now.boot w) c.loop-home.home _ _ _ c.loop-home.invariant c.in_ok-say_home.ensures
