use Rattle.dm_drill.proofs.Written.{more_written, none_written}
use Rattle.dm_drill.proofs.schedule.write_schedule.Goals as goal

pub loop-directive-init : goal.loop-directive-init
loop-directive-init c = none_written c.args.into.now.items c.args.directives.now

pub loop-directive-preserved : goal.loop-directive-preserved
loop-directive-preserved c = more_written _ _ _ _ _ _ c.loop-directive-test.true c.loop-directive.invariant c.in_ok-write_directive.ensures
