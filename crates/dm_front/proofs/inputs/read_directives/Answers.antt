use Rattle.dm_front.proofs.Names.{ℕ, ap, subst, arith, length, All, IsFor}
use Rattle.dm_front.proofs.Schedules.{are_read}
use Rattle.dm_front.proofs.inputs.read_directives.Goals as goal

pub returns-in-Ok-read_schedule-clause-each : goal.returns-in-Ok-read_schedule-clause-each
returns-in-Ok-read_schedule-clause-each g c =
    subst (λ (n : ℕ). All (IsFor n) c.in-Ok-read_schedule.directives.items) c.len-machines.ensures
    (are_read c.as_slice.result.now c.len-machines.result c.in-Ok-read_schedule.directives.items c.in-Ok-read_schedule.ensures.ok).each

pub returns-in-Ok-read_schedule-clause-few : goal.returns-in-Ok-read_schedule-clause-few
returns-in-Ok-read_schedule-clause-few g c =
    let k = (are_read c.as_slice.result.now c.len-machines.result c.in-Ok-read_schedule.directives.items c.in-Ok-read_schedule.ensures.ok).few in
    omega (arith, k, c.in-Ok.ensures.within, ap length c.as_slice.ensures.value)
