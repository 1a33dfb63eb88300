use Rattle.dm_cmd_check.proofs.Names.{None, refl, traced_by_world}
use Rattle.dm_cmd_check.proofs.Judging.{due_unwritten, judges_meet, never_judges}
use Rattle.dm_cmd_check.proofs.judge.judge_files.Goals as goal

pub returns-in-Ok : goal.returns-in-Ok
returns-in-Ok g c = record {
  meets = judges_meet traced_by_world c.args.boot.now c.args.trace.now _ c.in-Ok.told.due c.say.result c.in-Ok.told.text.items c.in-Ok.ensures.tells c.say.ensures.wrote c.in-Ok.ensures.shelf (c.say.ensures.sink (due_unwritten traced_by_world _ _ _ _ c.in-Ok.told.due c.in-Ok.ensures.tells));
}

pub returns-in-Err : goal.returns-in-Err
returns-in-Err g c = record { meets = never_judges traced_by_world c.args.boot.now c.args.trace.now _ None c.in-Err.status c.in-Err.ensures.none c.in-Err.ensures.shelf refl refl }
