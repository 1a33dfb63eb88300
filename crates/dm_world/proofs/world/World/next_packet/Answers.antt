use Rattle.dm_world.proofs.Names.{length, world_state}
use Rattle.dm_world.proofs.Falling.{packet_falls}
use Rattle.dm_world.proofs.world.World.next_packet.Goals as goal

pub returns-in-Some-clause-falls : goal.returns-in-Some-clause-falls
returns-in-Some-clause-falls c =
    let w = c.args.self.now in λ _. packet_falls (length w.boot.machines) (world_state w) c.args.pass c.args.from c.args.to c.in-Some.a c.in-Some.b c.in-Some.k c.in-Some.ensures.fresh
