use Rattle.dm_world.proofs.Names.{◌≡◌, arith, length, held_lines, world_state}
use Rattle.dm_world.proofs.Ending.{all_said, said_more}
use Rattle.dm_world.proofs.world.World.say_holding.Goals as goal

pub loop-m-preserved : goal.loop-m-preserved
loop-m-preserved c =
    let w = world_state c.args.self.now in
    let machines = length c.args.self.now.boot.machines in
    said_more (held_lines machines w) c.loop-m.m _ _ _ c.loop-m.invariant c.in_ok-say_holding_on.ensures

pub returns : goal.returns
returns c =
    let w = world_state c.args.self.now in
    let machines = length c.args.self.now.boot.machines in
    let end : c.loop-m.m ≡ machines = omega (arith, c.loop-m.auto.m-end, c.loop-m-test.false, c.machines-m-end.ensures.all) in
    all_said (held_lines machines w) c.loop-m.m machines _ _ end c.loop-m.invariant
