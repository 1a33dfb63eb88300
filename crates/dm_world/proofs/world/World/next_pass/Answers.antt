use Rattle.dm_world.proofs.Names.{length, sym, subst, Pass, NextPassIs, found, world_state}
use Rattle.dm_world.proofs.Passes.{settle_next}
use Rattle.dm_world.proofs.world.World.next_pass.Goals as goal

pub returns-in-Settle-clause-next : goal.returns-in-Settle-clause-next
returns-in-Settle-clause-next c ds =
    let w = c.args.self.now in
    let P : Pass → Type 0 = λ p. NextPassIs (length w.boot.machines) (world_state w) p ds (found c.next_packet.result c.next_packet.new.step c.next_packet.new.cursor) in
    subst P (sym c.in-Settle.is) (settle_next (length w.boot.machines) (world_state w) ds (found c.next_packet.result c.next_packet.new.step c.next_packet.new.cursor) (c.next_packet.ensures.next ds))
