use Rattle.dm_statebytes.proofs.Names.{◌≡◌, ◌++◌, ap, ◌∙◌, number, addr, then_put, direction}
use Rattle.dm_statebytes.proofs.writing.put_moving.Goals as goal

pub returns-clause-put : goal.returns-clause-put
returns-clause-put c =
    let owner = addr.spell c.args.owner in
    let base = (number 4).spell c.args.base in
    let own = (number 4).spell c.args.own in
    let left = (number 4).spell c.args.left in
    let pending = (number 4).spell c.args.pending in
    let new = c.put_u32-4.new.out.items in
    let dir : c.put_byte.new.out.items ≡ c.args.out.now.items ++ direction.spell c.args.dir = c.put_byte.ensures.put ∙ ap (λ n. c.args.out.now.items ++ (number 1).spell n) c.number.ensures in
    let from_left = then_put c.put_u32-2.new.out.items c.put_u32-3.new.out.items new left pending c.put_u32-3.ensures.put c.put_u32-4.ensures.put in
    let from_own = then_put c.put_u32.new.out.items c.put_u32-2.new.out.items new own (left ++ pending) c.put_u32-2.ensures.put from_left in
    let from_base = then_put c.put_addr.new.out.items c.put_u32.new.out.items new base (own ++ left ++ pending) c.put_u32.ensures.put from_own in
    let from_owner = then_put c.put_byte.new.out.items c.put_addr.new.out.items new owner (base ++ own ++ left ++ pending) c.put_addr.ensures.put from_base in
    then_put c.args.out.now.items c.put_byte.new.out.items new (direction.spell c.args.dir) (owner ++ base ++ own ++ left ++ pending) dir from_owner
