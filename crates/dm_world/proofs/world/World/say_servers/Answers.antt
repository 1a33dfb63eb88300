use Rattle.dm_world.proofs.Names.{manager, switchboard, world_state}
use Rattle.dm_world.specs.Ends.{kept_lines, living_lines}
use Rattle.dm_world.proofs.Ending.{four_said}
use Rattle.dm_world.proofs.world.World.say_servers.Goals as goal

pub returns : goal.returns
returns c =
    let b = c.args.self.now.boot in
    let w = world_state c.args.self.now in
    four_said (living_lines b w switchboard) (living_lines b w manager) (kept_lines b w switchboard) (kept_lines b w manager) _ _ _ _ _
    c.in_ok-say_living.ensures c.in_ok-say_living-2.ensures c.in_ok-say_kept.ensures c.in_ok-say_kept-2.ensures
