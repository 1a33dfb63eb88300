use Rattle.dm_packet.proofs.Names.{◌++◌, kind_of, addr, id, message_kind}
use Rattle.dm_packet.proofs.Writes.{then_put}
use Rattle.dm_packet.proofs.writing.put_head.Goals as goal

pub returns-clause-put : goal.returns-clause-put
returns-clause-put c =
    let m = c.args.message.now in
    let kind = message_kind.spell (kind_of m.what) in
    let new = c.put_kind.new.out.items in
    let from_sender = then_put c.put_addr.new.out.items c.put_addr-2.new.out.items new (addr.spell m.sender) kind c.put_addr-2.ensures.put c.put_kind.ensures.put in
    let from_to = then_put c.put_id.new.out.items c.put_addr.new.out.items new (addr.spell m.to) (addr.spell m.sender ++ kind) c.put_addr.ensures.put from_sender in
    then_put c.args.out.now.items c.put_id.new.out.items new (id.spell m.id) (addr.spell m.to ++ addr.spell m.sender ++ kind) c.put_id.ensures.put from_to
