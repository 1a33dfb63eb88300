use Rattle.dm_statebytes.proofs.Names.{take, refl, arith, common_steps, take_more_set, number, goes_on, registers}
use Rattle.dm_statebytes.proofs.Loops.{front_none}
use Rattle.dm_statebytes.proofs.reading.registers_at.Goals as goal

pub loop-place-init : goal.loop-place-init
unfolding registers
loop-place-init c = (front_none (registers.read c.args.bytes.now), refl)

pub loop-place-preserved : goal.loop-place-preserved
loop-place-preserved c =
    let so_far = c.loop-place.invariant in
    let rs = c.loop-place.registers in
    let put = goes_on (number 4).read (take c.loop-place.place rs) 16 c.loop-place.place c.loop-place.rest.now c.in_ok-value.value c.in_ok-value.after.now (registers.read c.args.bytes.now) c.loop-place-test.true c.in_ok-value.ensures so_far.0 in
    (rw (take_more_set rs c.loop-place.place c.in_ok-value.value (omega (arith, so_far.1, c.loop-place-test.true))) put, grind (arith, common_steps, so_far.1))
