use Rattle.dm_statebytes.proofs.Names.{get_or, take, flat_map, number, Fits, all_next, next_has_room, pieces_next, then_put}
use Rattle.dm_statebytes.proofs.writing.put_registers.Goals as goal

pub put_u32-requires : goal.put_u32-requires
put_u32-requires c =
    record { room = next_has_room (number 4).spell c.args.registers.now c.loop-value.value-index 0 c.args.out.now.items c.loop-value.out.items c.loop-value-test.true c.loop-value.invariant.0 c.requires.room }

pub loop-value-preserved : goal.loop-value-preserved
loop-value-preserved c =
    let registers = c.args.registers.now in
    let i = c.loop-value.value-index in
    let next = get_or registers i 0 in
    let put = then_put c.args.out.now.items c.loop-value.out.items c.put_u32.new.out.items (flat_map (number 4).spell (take i registers)) ((number 4).spell next) c.loop-value.invariant.0 c.put_u32.ensures.put in
    (rw (pieces_next (number 4).spell registers i 0 c.loop-value-test.true) put, all_next (Fits 4) registers i 0 c.loop-value-test.true c.loop-value.invariant.1 c.put_u32.ensures.fits)
