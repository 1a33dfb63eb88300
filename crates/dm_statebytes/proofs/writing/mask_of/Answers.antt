use Rattle.dm_statebytes.proofs.Names.{◌≤◌, length, arith}
use Rattle.dm_statebytes.proofs.Loops.{mask_has_room}
use Rattle.dm_statebytes.proofs.writing.mask_of.Goals as goal

pub overflow_mul-mask : goal.overflow_mul-mask
overflow_mul-mask c =
    let few : length c.args.table.now ≤ 128 = grind (arith, c.cap-slot.ensures.cap, c.cap-slot.ensures.known) in
    let room = mask_has_room c.args.table.now c.loop-slot.slot c.loop-slot-test.true c.loop-slot.invariant.1 few in
    omega (arith, room, c.loop-slot.invariant.0)

pub overflow_add-mask : goal.overflow_add-mask
overflow_add-mask c =
    let few : length c.args.table.now ≤ 128 = grind (arith, c.cap-slot.ensures.cap, c.cap-slot.ensures.known) in
    let room = mask_has_room c.args.table.now c.loop-slot.slot c.loop-slot-test.true c.loop-slot.invariant.1 few in
    let bit : c.from.result ≤ 1 = grind (arith, c.from.ensures) in
    omega (arith, room, c.loop-slot.invariant.0, bit)
