use Rattle.dm_cmd_count.proofs.Names.{refl, unread, Nothing, by_world}
use Rattle.dm_cmd_count.proofs.DrillKept.{drilled_unread}
use Rattle.dm_cmd_count.proofs.drill.drill_drawn.Goals as goal

pub returns : goal.returns
returns g c = record {
  meets = record {
    within = c.requires.within;
    meets = c.drill.ensures.meets;
    shelf = unread Nothing _ c.drill.result refl refl (drilled_unread by_world c.args.drawn.now _ c.drill.new.world c.drill.result c.drill.ensures.meets);
  };
}
