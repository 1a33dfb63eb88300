use Rattle.dm_world.proofs.Names.{length, ◌<◌, arith, found, world_state}
use Rattle.dm_world.proofs.Passes.{rest_next}
use Rattle.dm_world.proofs.world.World.next_rest.Goals as goal

pub returns-else-passes-eq0-clause-next : goal.returns-else-passes-eq0-clause-next
returns-else-passes-eq0-clause-next c ds =
    let w = c.args.self.now in
    let test = c.if-passes-eq0.false in
    let some : 0 < c.args.passes = omega (arith, test) in
    rest_next (length w.boot.machines) (world_state w) c.args.passes ds (found c.next_packet.result c.next_packet.new.step c.next_packet.new.cursor) some (c.next_packet.ensures.next ds)
