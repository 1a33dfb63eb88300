use Rattle.dm_world.specs.Meets.{world_state}
use Rattle.dm_explore.proofs.Redoing.{few_groups, next_here, redoing_first, redoing_more, redone}
use Rattle.dm_explore.proofs.search.redo_all.Goals as goal

pub loop-done-init : goal.loop-done-init
loop-done-init c =
    redoing_first c.args.world.now c.begin_again.new.world c.args.past.now c.done-done-items.result.now c.in_ok-begin_again.ensures.fresh c.in_ok-begin_again.ensures.running c.in_ok-begin_again.ensures.groups c.begin_again.ensures.boot c.done-done-items.ensures

pub redo-requires-clause-running : goal.redo-requires-clause-running
redo-requires-clause-running c = c.loop-done.invariant.running

pub redo-requires-clause-step : goal.redo-requires-clause-step
redo-requires-clause-step c = (next_here c.args.world.now c.loop-done.world c.args.past.now c.done-done-items.result.now c.loop-done.done-index _ c.requires.leads c.loop-done.invariant c.loop-done-test.true).fits

pub redo-requires-clause-goes : goal.redo-requires-clause-goes
redo-requires-clause-goes c = (next_here c.args.world.now c.loop-done.world c.args.past.now c.done-done-items.result.now c.loop-done.done-index _ c.requires.leads c.loop-done.invariant c.loop-done-test.true).says

pub redo-requires-clause-groups : goal.redo-requires-clause-groups
redo-requires-clause-groups c = few_groups c.args.world.now c.loop-done.world c.args.past.now c.done-done-items.result.now c.loop-done.done-index c.requires.leads c.loop-done.invariant c.loop-done-test.true

pub loop-done-preserved : goal.loop-done-preserved
loop-done-preserved c =
    redoing_more c.args.world.now c.loop-done.world c.redo.new.world c.args.past.now c.done-done-items.result.now c.loop-done.done-index _ c.loop-done.invariant c.loop-done-test.true c.in_ok-redo.ensures.running c.in_ok-redo.ensures.groups c.redo.ensures.boot c.in_ok-redo.ensures.does

pub returns-clause-there : goal.returns-clause-there
returns-clause-there c = λ p h gone. redone c.args.world.now.boot p c.done-done-items.result.now c.loop-done.done-index (world_state c.loop-done.world) (c.loop-done.invariant.redoes p h gone) c.loop-done-test.false
