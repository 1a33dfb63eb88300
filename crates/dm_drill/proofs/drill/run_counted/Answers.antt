use Rattle.dm_drill.proofs.Going.{ended_err}
use Rattle.dm_drill.proofs.drill.run_counted.Goals as goal

pub returns-in_err-drill_directives-clause-ended : goal.returns-in_err-drill_directives-clause-ended
returns-in_err-drill_directives-clause-ended g c =
    ended_err {A = Unit {0}} c.args.trace c.args.report.now c.args.world.now.boot c.args.directives.now (g.K.Sink.told c.args.out.now) (g.K.Sink.told c.drill_directives.new.out) c.drill_directives.new.world c.from_residual.result c.in_err-drill_directives.field-0.0 c.from_residual.ensures
    (c.in_err-drill_directives.ensures.came c.args.report.now)

pub sum_up-requires : goal.sum_up-requires
sum_up-requires g c = record { world = (c.in_ok-drill_directives.ensures.came c.args.report.now).world }

pub returns-clause-ended : goal.returns-clause-ended
returns-clause-ended g c = c.sum_up.ensures.ended c.args.world.now.boot c.args.directives.now (g.K.Sink.told c.args.out.now) (c.in_ok-drill_directives.ensures.came c.args.report.now)
