-- One digit more is below 10 ^ 19.
use Rattle.dm_reading.proofs.Names.{◌<◌, ◌^◌, arith}
use Rattle.dm_reading.proofs.Decimal.{room_for_digit}
use Rattle.dm_reading.proofs.numbers.exact_number.Goals as goal

pub overflow_mul-value : goal.overflow_mul-value
overflow_mul-value c =
    let small : c.loop-c.value < 10 ^ 18 = room_for_digit c.loop-c.value c.loop-c.c-index c.loop-c.invariant.small (omega arith) in
    omega arith

pub overflow_add-value : goal.overflow_add-value
overflow_add-value c =
    let small : c.loop-c.value < 10 ^ 18 = room_for_digit c.loop-c.value c.loop-c.c-index c.loop-c.invariant.small (omega arith) in
    omega arith
