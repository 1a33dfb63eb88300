use Rattle.dm_cmd_look.proofs.Names.{refl, None, Status, never_meets, runs_meet, silent_files, LookSays, held_by_world, by_world}
use Rattle.dm_cmd_look.proofs.look.look_files.Goals as goal

pub returns-in-Ok : goal.returns-in-Ok
returns-in-Ok g c = record {
  meets = record {
    as_run = runs_meet (LookSays by_world held_by_world c.args.groups c.args.names) c.args.boot.now c.args.schedule.now _ None c.look.result c.in-Ok.inputs.boot c.in-Ok.inputs.directives.items c.in-Ok.ensures.accepts c.in-Ok.ensures.valid c.in-Ok.ensures.each c.in-Ok.ensures.shelf c.look.ensures.says (λ i h. h) c.look.ensures.sink;
    no_world = refl;
  };
  said = silent_files (λ (s : Status). LookSays by_world held_by_world c.args.groups c.args.names c.in-Ok.inputs.boot c.in-Ok.inputs.directives.items (g.K.Sink.told c.args.out.now) (g.K.Sink.told c.look.new.out) None s) _ _ _ c.look.result _ (λ number place h. h) (λ line why h. h) c.look.ensures.says c.in-Ok.ensures.said;
}

pub returns-in-Err : goal.returns-in-Err
returns-in-Err g c = record {
  meets = record { as_run = never_meets (LookSays by_world held_by_world c.args.groups c.args.names) c.args.boot.now c.args.schedule.now _ None c.in-Err.status c.in-Err.ensures.none c.in-Err.ensures.shelf refl refl; no_world = refl };
  said = c.in-Err.ensures.said;
}
