use Rattle.dm_statebytes.proofs.Names.{◌++◌, number, then_put}
use Rattle.dm_statebytes.proofs.writing.put_waiting.Goals as goal

pub returns-clause-put : goal.returns-clause-put
returns-clause-put c =
    let base = (number 4).spell c.args.base in
    let size = (number 4).spell c.args.cap in
    let new = c.put_u32-3.new.out.items in
    let from_base = then_put c.put_u32.new.out.items c.put_u32-2.new.out.items new base size c.put_u32-2.ensures.put c.put_u32-3.ensures.put in
    then_put c.args.out.now.items c.put_u32.new.out.items new ((number 4).spell c.args.mask) (base ++ size) c.put_u32.ensures.put from_base
