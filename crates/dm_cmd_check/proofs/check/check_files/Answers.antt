use Rattle.dm_cmd_check.proofs.Names.{refl, None, Status, silent_boot, CheckSays, traced_by_world}
use Rattle.dm_cmd_check.proofs.Checking.{checks_meet, never_meets}
use Rattle.dm_cmd_check.proofs.check.check_files.Goals as goal

pub returns-in-Ok : goal.returns-in-Ok
returns-in-Ok g c = record {
  meets = checks_meet (CheckSays traced_by_world) c.args.boot.now c.args.trace.now _ c.check.result c.in-Ok.traced.boot c.in-Ok.traced.trace.items c.in-Ok.ensures.has c.in-Ok.ensures.valid c.in-Ok.ensures.shelf c.check.ensures.says (λ i h. h) c.check.ensures.sink;
  said = silent_boot (λ (s : Status). CheckSays traced_by_world c.in-Ok.traced.boot c.in-Ok.traced.trace.items (g.K.Sink.told c.args.out.now) (g.K.Sink.told c.check.new.out) s) _ _ c.check.result _ (λ number place h. h) c.check.ensures.says c.in-Ok.ensures.said;
}

pub returns-in-Err : goal.returns-in-Err
returns-in-Err g c = record { meets = never_meets (CheckSays traced_by_world) c.args.boot.now c.args.trace.now _ None c.in-Err.status c.in-Err.ensures.none c.in-Err.ensures.shelf refl refl; said = c.in-Err.ensures.said }
