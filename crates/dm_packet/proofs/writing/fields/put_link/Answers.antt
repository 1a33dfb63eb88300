use Rattle.dm_packet.proofs.Names.{◌++◌, number, addr, flags}
use Rattle.dm_packet.proofs.Writes.{then_put}
use Rattle.dm_packet.proofs.writing.fields.put_link.Goals as goal

pub returns-clause-put : goal.returns-clause-put
returns-clause-put c =
    let l = c.args.link.now in
    let base = (number 4).spell l.area.base in
    let len = (number 4).spell l.area.len in
    let from_channel = then_put c.put_u32.new.out.items c.put_byte.new.out.items c.put_u32-3.new.out.items ((number 1).spell l.channel) (base ++ len) c.put_byte.ensures.put (then_put c.put_byte.new.out.items c.put_u32-2.new.out.items c.put_u32-3.new.out.items base len c.put_u32-2.ensures.put c.put_u32-3.ensures.put) in
    let from_code = then_put c.put_flags.new.out.items c.put_u32.new.out.items c.put_u32-3.new.out.items ((number 4).spell l.code) ((number 1).spell l.channel ++ base ++ len) c.put_u32.ensures.put from_channel in
    let from_flags = then_put c.put_addr.new.out.items c.put_flags.new.out.items c.put_u32-3.new.out.items (flags.spell (l.kind, l.area.read, l.area.write)) ((number 4).spell l.code ++ (number 1).spell l.channel ++ base ++ len) c.put_flags.ensures.put from_code in
    then_put c.args.out.now.items c.put_addr.new.out.items c.put_u32-3.new.out.items (addr.spell l.addr) (flags.spell (l.kind, l.area.read, l.area.write) ++ (number 4).spell l.code ++ (number 1).spell l.channel ++ base ++ len) c.put_addr.ensures.put from_flags
