use Rattle.dm_cmd_count.proofs.Names.{◌≡◌, List, sym, subst, Some, Boot, Directive, Ended, Status, nothing_drilled, Report, by_world, ended_sink, CountedSays, MeetsSink, sink_around, own_report}
use Rattle.dm_cmd_count.proofs.Drills.{counted_says}
use Rattle.dm_cmd_count.proofs.own_drill.run.Goals as goal

pub returns-in-Ok-clause-says : goal.returns-in-Ok-clause-says
returns-in-Ok-clause-says g c =
    let r = c.run_counted-ended in
    let b = c.args.inputs.boot in
    let report = own_report b c.args.drill.now in
    let report_is : c.report_for-report.result ≡ report = c.report_for-report.ensures in
    let ended = subst (λ (k : Report). Ended {A = Unit {0}} by_world c.args.trace k b c.args.inputs.directives.items (g.K.Sink.told c.args.out.now) (g.K.Sink.told r.new.out) (Some r.new.world) r.result) report_is
    (subst (λ (ds : List Directive). Ended {A = Unit {0}} by_world c.args.trace c.report_for-report.result b ds (g.K.Sink.told c.args.out.now) (g.K.Sink.told r.new.out) (Some r.new.world) r.result) c.as_slice.ensures.value
    (subst (λ (x : Boot). Ended {A = Unit {0}} by_world c.args.trace c.report_for-report.result x c.as_slice.result.now (g.K.Sink.told c.args.out.now) (g.K.Sink.told r.new.out) (Some r.new.world) r.result) c.in-Ok.ensures.boot r.ensures.ended)) in
    subst (λ (s : Status). CountedSays by_world c.args.trace report b c.args.inputs.directives.items (g.K.Sink.told c.args.out.now) (g.K.Sink.told r.new.out) (Some r.new.world) s) (sym c.status_of.ensures)
    (counted_says (Unit {0}) by_world c.args.trace report b c.args.inputs.directives.items (g.K.Sink.told c.args.out.now) (g.K.Sink.told r.new.out) (Some r.new.world) r.result ended)

pub returns-in-Ok-clause-sink : goal.returns-in-Ok-clause-sink
returns-in-Ok-clause-sink g c =
    let r = c.run_counted-ended in
    let k = sink_around g.K.Sink.told g.K.Sink.faults g.K.Sink.last_failed c.args.out.now r.new.out in
    subst (λ (s : Status). MeetsSink k s) (sym c.status_of.ensures) (ended_sink k r.result r.ensures.blames r.ensures.last r.ensures.writes)

pub returns-clause-says : goal.returns-clause-says
returns-clause-says g c = nothing_drilled c.args.trace c.args.inputs.boot c.args.inputs.directives.items (g.K.Sink.told c.args.out.now)
