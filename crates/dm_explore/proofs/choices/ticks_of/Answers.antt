use Rattle.std.proofs.Common.{sym, ap, ◌∙◌, arith}
use Rattle.dm_explore.specs.declared.past.Done.{Done}
use Rattle.dm_explore.specs.Past.{count_of, is_tick}
use Rattle.dm_explore.proofs.Notes.{counted_all, counted_no, counted_yes, noted_count}
use Rattle.dm_explore.proofs.choices.ticks_of.Goals.{then-is_tick, else-is_tick}
use Rattle.dm_explore.proofs.choices.ticks_of.Goals as goal

pub loop-each-preserved : goal.loop-each-preserved
loop-each-preserved c = elim c.if-is_tick.branch [
  | then-is_tick w ↦ record { counted = w.count-is ∙ counted_yes (λ (x : Done). is_tick x.step) c.args.done.now c.loop-each.each-index _ c.loop-each.count c.loop-each-test.true (sym c.is_tick.ensures ∙ w.if-is_tick.true) c.loop-each.invariant.counted; few = omega arith }
  | else-is_tick w ↦ record { counted = w.count-is ∙ counted_no (λ (x : Done). is_tick x.step) c.args.done.now c.loop-each.each-index _ c.loop-each.count c.loop-each-test.true (sym c.is_tick.ensures ∙ w.if-is_tick.false) c.loop-each.invariant.counted; few = omega arith }
]

pub returns : goal.returns
returns c = λ ds h. counted_all (λ (x : Done). is_tick x.step) c.args.done.now c.loop-each.each-index c.loop-each.count c.loop-each-test.false c.loop-each.invariant.counted ∙ (ap (count_of (λ (x : Done). is_tick x.step)) h ∙ noted_count is_tick ds)
