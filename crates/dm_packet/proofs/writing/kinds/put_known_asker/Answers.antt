use Rattle.dm_packet.proofs.Names.{number, addr}
use Rattle.dm_packet.proofs.Writes.{then_put}
use Rattle.dm_packet.proofs.writing.kinds.put_known_asker.Goals as goal

pub returns-clause-put : goal.returns-clause-put
returns-clause-put c =
    then_put c.args.out.now.items c.put_u32.new.out.items c.put_addr.new.out.items ((number 4).spell c.args.asker.n) (addr.spell c.args.asker.addr) c.put_u32.ensures.put c.put_addr.ensures.put
