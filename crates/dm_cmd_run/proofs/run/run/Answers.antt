use Rattle.dm_cmd_run.proofs.Names.{List, sym, subst, Some, Boot, Directive, Status, nothing_printed, Ended, by_world, ended_sink, MeetsSink, sink_around, RunSays}
use Rattle.dm_cmd_run.proofs.RunSaid.{run_says}
use Rattle.dm_cmd_run.proofs.run.run.Goals as goal

pub returns-in-Ok-clause-says : goal.returns-in-Ok-clause-says
returns-in-Ok-clause-says g c =
    let r = c.run_to_end-ended in
    let ended = subst (λ (ds : List Directive). Ended {A = Unit {0}} by_world c.args.inputs.boot ds (g.K.Sink.told c.args.out.now) (g.K.Sink.told r.new.out) (Some r.new.world) r.result) c.as_slice.ensures.value
    (subst (λ (b : Boot). Ended {A = Unit {0}} by_world b c.as_slice.result.now (g.K.Sink.told c.args.out.now) (g.K.Sink.told r.new.out) (Some r.new.world) r.result) c.in-Ok.ensures.boot r.ensures.ended) in
    subst (λ (s : Status). RunSays by_world c.args.inputs.boot c.args.inputs.directives.items (g.K.Sink.told c.args.out.now) (g.K.Sink.told r.new.out) (Some r.new.world) s) (sym c.status_of.ensures)
    (run_says (Unit {0}) by_world c.args.inputs.boot c.args.inputs.directives.items (g.K.Sink.told c.args.out.now) (g.K.Sink.told r.new.out) (Some r.new.world) r.result ended)

pub returns-in-Ok-clause-sink : goal.returns-in-Ok-clause-sink
returns-in-Ok-clause-sink g c =
    let r = c.run_to_end-ended in
    let k = sink_around g.K.Sink.told g.K.Sink.faults g.K.Sink.last_failed c.args.out.now r.new.out in
    subst (λ (s : Status). MeetsSink k s) (sym c.status_of.ensures) (ended_sink k r.result r.ensures.blames r.ensures.last r.ensures.writes)

pub returns-clause-says : goal.returns-clause-says
returns-clause-says g c = nothing_printed c.args.inputs.boot c.args.inputs.directives.items (g.K.Sink.told c.args.out.now)
