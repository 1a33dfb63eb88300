use Rattle.std.proofs.Common.{ap, ◌∙◌}
use Rattle.dm_explore.specs.Answers.{Found}
use Rattle.dm_explore.proofs.Ways.{grown, steps_all, steps_more}
use Rattle.dm_explore.proofs.search.Search.found.Goals as goal

pub loop-done-preserved : goal.loop-done-preserved
loop-done-preserved c = grown _ c.in_ok-push.ensures.items c.loop-done.invariant (steps_more c.done-done-items.result.now c.loop-done.done-index _ c.loop-done-test.true)

pub returns : goal.returns
returns c = λ p h. ap Found (c.loop-done.invariant ∙ steps_all p.done c.done-done-items.result.now c.loop-done.done-index (c.done-done-items.ensures ∙ h.past.done) c.loop-done-test.false)
