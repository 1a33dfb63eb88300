use Rattle.dm_cmd_count.proofs.Names.{List, subst, refl, Boot, Directive, boot_of_machines, directives_of_drill, DrilledSays, nothing_drilled, by_world, unwritten}
use Rattle.dm_cmd_count.proofs.drill.drill.Goals as goal

pub returns-in-Ok : goal.returns-in-Ok
returns-in-Ok g c = record {
  meets = record {
    says = subst (λ (ds : List Directive). DrilledSays by_world c.args.drill.now (boot_of_machines c.args.drill.now.machines) ds (g.K.Sink.told c.args.out.now) (g.K.Sink.told c.run.new.out) c.run.new.world c.run.result) c.in-Ok.ensures.directives
        (subst (λ (b : Boot). DrilledSays by_world c.args.drill.now b c.in-Ok.drawn.directives.items (g.K.Sink.told c.args.out.now) (g.K.Sink.told c.run.new.out) c.run.new.world c.run.result) c.in-Ok.ensures.boot c.run.ensures.says);
    sink = c.run.ensures.sink;
  };
}

pub returns-in-Err : goal.returns-in-Err
returns-in-Err g c = record {
  meets = record {
    says = nothing_drilled c.args.drill.now.trace (boot_of_machines c.args.drill.now.machines) (directives_of_drill c.args.drill.now) (g.K.Sink.told c.args.out.now);
    sink = unwritten _ _ refl (λ e. cc);
  };
}
