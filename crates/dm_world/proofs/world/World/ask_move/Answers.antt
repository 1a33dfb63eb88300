use Rattle.dm_world.proofs.Names.{length, arith, ap, Some, None}
use Rattle.dm_world.proofs.Nodes.{few_machines}
use Rattle.dm_world.proofs.Seats.{seat_here}
use Rattle.dm_world.proofs.world.World.ask_move.Goals as goal

pub seat_of-requires : goal.seat_of-requires
seat_of-requires c =
    let few = few_machines c.args.self.now c.requires.world in
    let size = c.requires.world.machines in
    let same = ap length c.deref.ensures.value in
    omega (arith, few, size, same)

pub ask_move_at-requires-clause-seat : goal.ask_move_at-requires-clause-seat
ask_move_at-requires-clause-seat c = seat_here c.args.self.now c.deref.result.now (Some c.in-Some.seat) c.requires.world c.deref.ensures.value (c.in-Some.ensures c.args.self.now.boot)

pub say_away-requires-clause-away : goal.say_away-requires-clause-away
say_away-requires-clause-away c = seat_here c.args.self.now c.deref.result.now None c.requires.world c.deref.ensures.value (c.in-None.ensures c.args.self.now.boot)
