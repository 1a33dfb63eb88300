use Rattle.std.proofs.Common.{sym, ap, ◌∙◌, arith}
use Rattle.dm_explore.specs.declared.past.Done.{Done}
use Rattle.dm_explore.specs.Past.{count_of, is_same}
use Rattle.dm_explore.proofs.Notes.{counted_all, counted_no, counted_yes, noted_count}
use Rattle.dm_explore.proofs.choices.times.Goals.{then-is_same, else-is_same}
use Rattle.dm_explore.proofs.choices.times.Goals as goal

pub loop-each-preserved : goal.loop-each-preserved
loop-each-preserved c = elim c.if-is_same.branch [
  | then-is_same w ↦ record { counted = w.count-is ∙ counted_yes (λ (x : Done). is_same x.step c.args.step) c.args.done.now c.loop-each.each-index _ c.loop-each.count c.loop-each-test.true (sym c.is_same.ensures ∙ w.if-is_same.true) c.loop-each.invariant.counted; few = omega arith }
  | else-is_same w ↦ record { counted = w.count-is ∙ counted_no (λ (x : Done). is_same x.step c.args.step) c.args.done.now c.loop-each.each-index _ c.loop-each.count c.loop-each-test.true (sym c.is_same.ensures ∙ w.if-is_same.false) c.loop-each.invariant.counted; few = omega arith }
]

pub returns : goal.returns
returns c = λ ds h. counted_all (λ (x : Done). is_same x.step c.args.step) c.args.done.now c.loop-each.each-index c.loop-each.count c.loop-each-test.false c.loop-each.invariant.counted ∙ (ap (count_of (λ (x : Done). is_same x.step c.args.step)) h ∙ noted_count (λ e. is_same e c.args.step) ds)
