use Rattle.dm_explore.proofs.Telling.{heads_all, heads_more, heads_none}
use Rattle.dm_explore.proofs.answer.write_heads.Goals as goal

pub loop-step-init : goal.loop-step-init
loop-step-init c = heads_none c.args.into.now.items c.args.steps.now

pub loop-step-preserved : goal.loop-step-preserved
loop-step-preserved c = heads_more c.args.into.now.items _ _ c.args.steps.now c.loop-step.step-index _ c.loop-step-test.true c.loop-step.invariant c.in_ok-write_line.ensures.written

pub returns : goal.returns
returns c = heads_all c.args.into.now.items _ c.args.steps.now c.loop-step.step-index c.loop-step-test.false c.loop-step.invariant
