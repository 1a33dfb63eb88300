use Rattle.dm_cmd_count.proofs.Names.{List, subst, sym, Directive, Shows, by_world, ShownSays, ScheduleSays}
use Rattle.dm_cmd_count.proofs.own_drill.show.Goals as goal

pub returns-in-Summary-clause-says : goal.returns-in-Summary-clause-says
returns-in-Summary-clause-says g c =
    subst (λ (x : Shows). ShownSays by_world c.args.drill.now x c.args.inputs.boot c.args.inputs.directives.items (g.K.Sink.told c.args.out.now) (g.K.Sink.told c.run.new.out) c.run.new.world c.run.result) (sym c.in-Summary.is) c.run.ensures.says

pub returns-in-Groups-clause-says : goal.returns-in-Groups-clause-says
returns-in-Groups-clause-says g c =
    subst (λ (x : Shows). ShownSays by_world c.args.drill.now x c.args.inputs.boot c.args.inputs.directives.items (g.K.Sink.told c.args.out.now) (g.K.Sink.told c.run-in-Groups.new.out) c.run-in-Groups.new.world c.run-in-Groups.result) (sym c.in-Groups.is) c.run-in-Groups.ensures.says

pub returns-in-Directives-clause-says : goal.returns-in-Directives-clause-says
returns-in-Directives-clause-says g c =
    subst (λ (x : Shows). ShownSays by_world c.args.drill.now x c.args.inputs.boot c.args.inputs.directives.items (g.K.Sink.told c.args.out.now) (g.K.Sink.told c.write.new.out) c.args.world.now c.write.result) (sym c.in-Directives.is)
    (subst (λ (ds : List Directive). ScheduleSays c.args.inputs.boot ds (g.K.Sink.told c.args.out.now) (g.K.Sink.told c.write.new.out) c.args.world.now c.write.result) c.as_slice.ensures.value
    (c.write.ensures.says c.args.inputs.boot c.args.world.now c.requires.empty))
