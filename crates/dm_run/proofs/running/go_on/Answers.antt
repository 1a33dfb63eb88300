use Rattle.dm_run.proofs.Names.{world_state, StopsWorn}
use Rattle.dm_run.proofs.Counted.{counts}
use Rattle.dm_run.proofs.Going.{done, if_err, may_step, running_on, stops_as}
use Rattle.dm_run.proofs.running.go_on.Goals as goal

pub step-requires-clause-may : goal.step-requires-clause-may
step-requires-clause-may c = may_step c.requires.law c.args.world.now c.args.step.now c.requires.running c.requires.step

pub returns-clause-does : goal.returns-clause-does
returns-clause-does c =
    done c.args.world.now.boot (world_state c.args.world.now) c.args.step.now c.in_ok-lines.lines.items (world_state c.step.new.self) c.requires.step c.in_ok-lines.ensures.meets.answers c.in_ok-lines.ensures.meets.again c.in_ok-lines.ensures.meets.whole

pub returns-clause-running : goal.returns-clause-running
returns-clause-running c = running_on c.args.world.now c.step.new.self c.args.step.now c.in_ok-lines.lines.items c.requires.running c.in_ok-lines.ensures.meets.world c.in_ok-lines.ensures.running c.step.ensures.meets.boot (returns-clause-does c)

pub returns-clause-groups : goal.returns-clause-groups
returns-clause-groups c =
    counts c.args.world.now.boot (world_state c.args.world.now) c.args.step.now (record { state = world_state c.step.new.self; lines = c.in_ok-lines.lines.items }) (returns-clause-does c).happens

pub returns-in_err-lines-clause-worn : goal.returns-in_err-lines-clause-worn
returns-in_err-lines-clause-worn c =
    if_err c.from_residual.result c.in_err-lines.field-0.0 (λ stop. StopsWorn c.args.world.now.boot (world_state c.args.world.now) c.args.step.now stop) c.from_residual.ensures
    (stops_as c.args.world.now.boot (world_state c.args.world.now) (world_state c.step.new.self) c.args.step.now c.in_err-lines.field-0.0 c.requires.step c.in_err-lines.ensures.meets.answers c.in_err-lines.ensures.meets.whole)
