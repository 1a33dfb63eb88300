use Rattle.dm_cmd_explain.proofs.Names.{None, refl, option_map}
use Rattle.dm_cmd_explain.proofs.ExplainOutcomes.{due_unwritten, explains_meet, never_meets}
use Rattle.dm_cmd_explain.proofs.explain.explain_files.Goals as goal

pub returns-in-Ok : goal.returns-in-Ok
returns-in-Ok g c = record {
  meets = explains_meet c.args.boot.now (option_map (λ s. s.now) c.args.schedule) _ c.in-Ok.told.due c.say.result c.in-Ok.told.text.items c.in-Ok.ensures.tells c.say.ensures.wrote c.in-Ok.ensures.shelf (c.say.ensures.sink (due_unwritten _ _ _ _ c.in-Ok.told.due c.in-Ok.ensures.tells));
}

pub returns-in-Err : goal.returns-in-Err
returns-in-Err g c = record { meets = never_meets c.args.boot.now (option_map (λ s. s.now) c.args.schedule) _ None c.in-Err.status c.in-Err.ensures.none c.in-Err.ensures.shelf refl refl }
