use Rattle.dm_packet.proofs.Names.{◌++◌, number, pid, asker, optional}
use Rattle.dm_packet.proofs.Writes.{then_put}
use Rattle.dm_packet.proofs.writing.kinds.put_ask.Goals as goal

pub returns-clause-put : goal.returns-clause-put
returns-clause-put c =
    let blocks = (number 2).spell c.args.blocks in
    let moves = (number 4).spell c.args.moves in
    let size = (number 4).spell c.args.size in
    let who = (optional asker).spell c.args.asker in
    let new = c.put_asker.new.out.items in
    let from_size = then_put c.put_u32.new.out.items c.put_u32-2.new.out.items new size who c.put_u32-2.ensures.put c.put_asker.ensures.put in
    let from_moves = then_put c.put_u16.new.out.items c.put_u32.new.out.items new moves (size ++ who) c.put_u32.ensures.put from_size in
    let from_blocks = then_put c.put_pid.new.out.items c.put_u16.new.out.items new blocks (moves ++ size ++ who) c.put_u16.ensures.put from_moves in
    then_put c.args.out.now.items c.put_pid.new.out.items new (pid.spell c.args.pid) (blocks ++ moves ++ size ++ who) c.put_pid.ensures.put from_blocks
