use Rattle.dm_world.proofs.Names.{◌≡◌, length, arith, stream_line, world_state}
use Rattle.dm_world.proofs.Ending.{all_said, said_more}
use Rattle.dm_world.proofs.world.World.say_streams_from.Goals as goal

pub loop-to-preserved : goal.loop-to-preserved
loop-to-preserved c =
    said_more (stream_line (world_state c.args.self.now) c.args.from) c.loop-to.to _ _ _ c.loop-to.invariant c.in_ok-say_stream.ensures

pub returns : goal.returns
returns c =
    let machines = length c.args.self.now.boot.machines in
    let end : c.loop-to.to ≡ machines = omega (arith, c.loop-to.auto.to-end, c.loop-to-test.false, c.machines-to-end.ensures.all) in
    all_said (stream_line (world_state c.args.self.now) c.args.from) c.loop-to.to machines _ _ end c.loop-to.invariant
