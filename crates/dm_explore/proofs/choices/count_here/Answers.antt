use Rattle.std.proofs.Common.{sym, ◌∙◌, arith}
use Rattle.dm_explore.specs.Past.{is_same}
use Rattle.dm_explore.proofs.Notes.{counted_all, counted_no, counted_yes}
use Rattle.dm_explore.proofs.choices.count_here.Goals.{then-is_same, else-is_same}
use Rattle.dm_explore.proofs.choices.count_here.Goals as goal

pub loop-other-preserved : goal.loop-other-preserved
loop-other-preserved c = elim c.if-is_same.branch [
  | then-is_same w ↦ record { counted = w.count-is ∙ counted_yes (λ d. is_same d c.args.step) c.args.requests.now c.loop-other.other-index _ c.loop-other.count c.loop-other-test.true (sym c.is_same.ensures ∙ w.if-is_same.true) c.loop-other.invariant.counted; few = omega arith }
  | else-is_same w ↦ record { counted = w.count-is ∙ counted_no (λ d. is_same d c.args.step) c.args.requests.now c.loop-other.other-index _ c.loop-other.count c.loop-other-test.true (sym c.is_same.ensures ∙ w.if-is_same.false) c.loop-other.invariant.counted; few = omega arith }
]

pub returns : goal.returns
returns c = counted_all (λ d. is_same d c.args.step) c.args.requests.now c.loop-other.other-index c.loop-other.count c.loop-other-test.false c.loop-other.invariant.counted
