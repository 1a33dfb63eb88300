use Rattle.std.specs.Prelude.{◌+◌}
use Rattle.std.proofs.Common.{rules, ap, ◌∙◌}
use Rattle.dm_program.proofs.Runs.Law.{runs_go}
use Rattle.dm_rows.proofs.embedding.step_system.Goals as goal

pub loop-n-init : goal.loop-n-init
loop-n-init c = record { running = c.in_ok-world.ensures.running; groups = c.in_ok-world.ensures.groups }

pub is_at_rest-requires : goal.is_at_rest-requires
is_at_rest-requires c = c.loop-n.invariant.running.world

pub machines-requires : goal.machines-requires
machines-requires c = c.loop-n.invariant.running.world

pub step_on-requires-clause-law : goal.step_on-requires-clause-law
step_on-requires-clause-law c = runs_go

pub step_on-requires-clause-running : goal.step_on-requires-clause-running
step_on-requires-clause-running c = c.loop-n.invariant.running

pub step_on-requires-clause-groups : goal.step_on-requires-clause-groups
step_on-requires-clause-groups c = search rules

pub loop-n-preserved : goal.loop-n-preserved
loop-n-preserved c = record { running = c.in-Ok.ensures.running; groups = c.in-Ok.ensures.groups ∙ ap (λ k. k + 1) c.loop-n.invariant.groups }
