use Rattle.dm_packet.proofs.Names.{◌∷◌, [], asker}
use Rattle.dm_packet.proofs.Writes.{then_put}
use Rattle.dm_packet.proofs.writing.kinds.put_asker.Goals as goal

pub returns-in-Some-clause-put : goal.returns-in-Some-clause-put
returns-in-Some-clause-put c =
    rw c.in-Some.is
    (then_put c.args.out.now.items c.put_byte-in-Some.new.out.items c.put_known_asker.new.out.items (1 ∷ []) (asker.spell c.in-Some.asker) c.put_byte-in-Some.ensures.put c.put_known_asker.ensures.put)
