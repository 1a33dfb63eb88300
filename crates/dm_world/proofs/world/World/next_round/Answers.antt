use Rattle.dm_world.proofs.Names.{length, ◌<◌, arith, found, world_state}
use Rattle.dm_world.proofs.Passes.{one_fewer}
use Rattle.dm_world.proofs.world.World.next_round.Goals as goal

pub returns-else-rounds-eq0-clause-next : goal.returns-else-rounds-eq0-clause-next
returns-else-rounds-eq0-clause-next c ds =
    let w = c.args.self.now in
    let test = c.if-rounds-eq0.false in
    let some : 0 < c.args.rounds = omega (arith, test) in
    one_fewer (length w.boot.machines) (world_state w) c.args.rounds ds (found c.next_packet.result c.next_packet.new.step c.next_packet.new.cursor) some (c.next_packet.ensures.next ds) c.next_packet.ensures.goes
