use Rattle.dm_cmd_count.proofs.Names.{refl, Status, never_meets, runs_meet, silent_files, by_world, CountSays}
use Rattle.dm_cmd_count.proofs.count.count_files.Goals as goal

pub returns-in-Ok : goal.returns-in-Ok
returns-in-Ok g c = record {
  meets = runs_meet (CountSays by_world) c.args.boot.now c.args.schedule.now _ c.count.new.world c.count.result c.in-Ok.inputs.boot c.in-Ok.inputs.directives.items c.in-Ok.ensures.accepts c.in-Ok.ensures.valid c.in-Ok.ensures.each c.in-Ok.ensures.shelf c.count.ensures.says (λ i h. h) c.count.ensures.sink;
  said = silent_files (λ (s : Status). CountSays by_world c.in-Ok.inputs.boot c.in-Ok.inputs.directives.items (g.K.Sink.told c.args.out.now) (g.K.Sink.told c.count.new.out) c.count.new.world s) _ _ _ c.count.result _ (λ number place h. h) (λ line why h. h) c.count.ensures.says c.in-Ok.ensures.said;
}

pub returns-in-Err : goal.returns-in-Err
returns-in-Err g c = record { meets = never_meets (CountSays by_world) c.args.boot.now c.args.schedule.now _ _ c.in-Err.status c.in-Err.ensures.none c.in-Err.ensures.shelf refl refl; said = c.in-Err.ensures.said }
