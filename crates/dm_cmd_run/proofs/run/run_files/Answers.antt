use Rattle.dm_cmd_run.proofs.Names.{refl, Status, never_meets, runs_meet, silent_files, by_world, RunSays}
use Rattle.dm_cmd_run.proofs.run.run_files.Goals as goal

pub returns-in-Ok : goal.returns-in-Ok
returns-in-Ok g c = record {
  meets = runs_meet (RunSays by_world) c.args.boot.now c.args.schedule.now _ c.run.new.world c.run.result c.in-Ok.inputs.boot c.in-Ok.inputs.directives.items c.in-Ok.ensures.accepts c.in-Ok.ensures.valid c.in-Ok.ensures.each c.in-Ok.ensures.shelf c.run.ensures.says (λ i h. h) c.run.ensures.sink;
  said = silent_files (λ (s : Status). RunSays by_world c.in-Ok.inputs.boot c.in-Ok.inputs.directives.items (g.K.Sink.told c.args.out.now) (g.K.Sink.told c.run.new.out) c.run.new.world s) _ _ _ c.run.result _ (λ number place h. h) (λ line why h. h) c.run.ensures.says c.in-Ok.ensures.said;
}

pub returns-in-Err : goal.returns-in-Err
returns-in-Err g c = record { meets = never_meets (RunSays by_world) c.args.boot.now c.args.schedule.now _ _ c.in-Err.status c.in-Err.ensures.none c.in-Err.ensures.shelf refl refl; said = c.in-Err.ensures.said }
