use Rattle.dm_packet.proofs.Names.{◌++◌, number, bit_of, bytes_within, pid}
use Rattle.dm_packet.proofs.Writes.{then_put}
use Rattle.dm_packet.proofs.writing.kinds.put_state.Goals as goal

pub returns-clause-put : goal.returns-clause-put
returns-clause-put c =
    let chunk = (number 4).spell c.args.chunk in
    let last = (number 1).spell (bit_of c.args.last) in
    let bytes = (bytes_within 1 512).spell c.args.bytes.now in
    let new = c.put_counted.new.out.items in
    let from_last = then_put c.put_u32.new.out.items c.put_bool.new.out.items new last bytes c.put_bool.ensures.put c.put_counted.ensures.put in
    let from_chunk = then_put c.put_pid.new.out.items c.put_u32.new.out.items new chunk (last ++ bytes) c.put_u32.ensures.put from_last in
    then_put c.args.out.now.items c.put_pid.new.out.items new (pid.spell c.args.pid) (chunk ++ last ++ bytes) c.put_pid.ensures.put from_chunk
