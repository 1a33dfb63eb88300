use Rattle.dm_world.proofs.Names.{◌≡◌, length, arith, held_line, homes_with, manager, switchboard, world_state}
use Rattle.dm_world.proofs.Ending.{all_homes_said, home_more, three_said}
use Rattle.dm_world.proofs.world.World.say_holding_on.Goals as goal

pub loop-home-preserved : goal.loop-home-preserved
loop-home-preserved c =
    let w = world_state c.args.self.now in
    home_more w (held_line w c.args.m) c.loop-home.home _ _ _ c.loop-home.invariant c.in_ok-say_holding_of.ensures

pub returns : goal.returns
returns c =
    let w = world_state c.args.self.now in
    let machines = length c.args.self.now.boot.machines in
    let end : c.loop-home.home ≡ machines = omega (arith, c.loop-home.auto.home-end, c.loop-home-test.false, c.machines-home-end.ensures.all) in
    three_said (held_line w c.args.m switchboard) (held_line w c.args.m manager) (homes_with w (held_line w c.args.m) machines) _ _ _ _ c.in_ok-say_held.ensures c.in_ok-say_held-2.ensures
    (all_homes_said w (held_line w c.args.m) c.loop-home.home machines _ _ end c.loop-home.invariant)
