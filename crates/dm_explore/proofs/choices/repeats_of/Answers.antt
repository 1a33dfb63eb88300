use Rattle.std.proofs.Common.{ap, ◌∙◌, arith}
use Rattle.dm_explore.specs.declared.past.Done.{Done}
use Rattle.dm_explore.specs.Past.{count_of}
use Rattle.dm_explore.proofs.Notes.{counted_all, counted_no, counted_yes, noted_repeats}
use Rattle.dm_explore.proofs.choices.repeats_of.Goals.{then-each, else-each}
use Rattle.dm_explore.proofs.choices.repeats_of.Goals as goal

pub loop-each-preserved : goal.loop-each-preserved
loop-each-preserved c = elim c.if-each.branch [
  | then-each w ↦ record { counted = w.count-is ∙ counted_yes (λ (x : Done). x.again) c.args.done.now c.loop-each.each-index _ c.loop-each.count c.loop-each-test.true w.if-each.true c.loop-each.invariant.counted; few = omega arith }
  | else-each w ↦ record { counted = w.count-is ∙ counted_no (λ (x : Done). x.again) c.args.done.now c.loop-each.each-index _ c.loop-each.count c.loop-each-test.true w.if-each.false c.loop-each.invariant.counted; few = omega arith }
]

pub returns : goal.returns
returns c = λ ds h. counted_all (λ (x : Done). x.again) c.args.done.now c.loop-each.each-index c.loop-each.count c.loop-each-test.false c.loop-each.invariant.counted ∙ (ap (count_of (λ (x : Done). x.again)) h ∙ noted_repeats ds)
