use Rattle.dm_statebytes.proofs.Names.{◌≡◌, ◌+◌, ◌∙◌, length, ap, arith, flat_map, length-append, number, then_put, registers}
use Rattle.dm_statebytes.proofs.Sizes.{numbers_size}
use Rattle.dm_statebytes.proofs.writing.put_regs.Goals as goal

pub put_registers-requires : goal.put_registers-requires
put_registers-requires c = record { room = omega (arith, numbers_size c.args.regs.now.r, c.requires.registers, c.requires.room) }

pub put_u32-requires : goal.put_u32-requires
put_u32-requires c =
    let bytes = flat_map (number 4).spell c.args.regs.now.r in
    let put : length c.put_registers.new.out.items ≡ length c.args.out.now.items + length bytes = ap length c.put_registers.ensures.put ∙ length-append c.args.out.now.items bytes in
    record { room = omega (arith, put, numbers_size c.args.regs.now.r, c.requires.registers, c.requires.room) }

pub returns-clause-put : goal.returns-clause-put
unfolding registers
returns-clause-put c =
    then_put c.args.out.now.items c.put_registers.new.out.items c.put_u32.new.out.items (flat_map (number 4).spell c.args.regs.now.r) ((number 4).spell c.args.regs.now.pc) c.put_registers.ensures.put c.put_u32.ensures.put
