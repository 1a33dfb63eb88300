use Rattle.dm_world.proofs.Names.{◌≡◌, arith, length, joined_below, stream_line, world_state}
use Rattle.dm_world.proofs.Ending.{all_said, said_more}
use Rattle.dm_world.proofs.world.World.say_streams.Goals as goal

pub loop-from-preserved : goal.loop-from-preserved
loop-from-preserved c =
    let w = world_state c.args.self.now in
    let machines = length c.args.self.now.boot.machines in
    said_more (λ a. joined_below (stream_line w a) machines) c.loop-from.from _ _ _ c.loop-from.invariant c.in_ok-say_streams_from.ensures

pub returns : goal.returns
returns c =
    let w = world_state c.args.self.now in
    let machines = length c.args.self.now.boot.machines in
    let end : c.loop-from.from ≡ machines = omega (arith, c.loop-from.auto.from-end, c.loop-from-test.false, c.machines-from-end.ensures.all) in
    all_said (λ a. joined_below (stream_line w a) machines) c.loop-from.from machines _ _ end c.loop-from.invariant
