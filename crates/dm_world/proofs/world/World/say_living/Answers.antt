use Rattle.dm_world.proofs.Names.{length, first_awaited, first_had, world_state}
use Rattle.dm_world.proofs.Ending.{said_first, said_second}
use Rattle.dm_world.proofs.world.World.say_living.Goals as goal

pub returns-then-branch : goal.returns-then-branch
returns-then-branch c =
    let n = length c.args.self.now.boot.machines in
    let w = world_state c.args.self.now in
    said_first c.in_ok-say_had.field-0 (first_had n w c.args.pid) (first_awaited c.args.self.now.boot w c.args.pid) c.args.lines.now.items c.say_had.new.lines.items c.if-branch.true c.in_ok-say_had.ensures

pub returns : goal.returns
returns c =
    let n = length c.args.self.now.boot.machines in
    let w = world_state c.args.self.now in
    said_second c.in_ok-say_had.field-0 c.in_ok-say_awaited.field-0 (first_had n w c.args.pid) (first_awaited c.args.self.now.boot w c.args.pid) c.args.lines.now.items c.say_had.new.lines.items c.say_awaited.new.lines.items
    c.if-branch.false c.in_ok-say_had.ensures c.in_ok-say_awaited.ensures
