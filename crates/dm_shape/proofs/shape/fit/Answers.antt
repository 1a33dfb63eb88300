use Rattle.dm_shape.proofs.Imports.{ap, sym, ◌∙◌, drop, fit}
use Rattle.dm_shape.proofs.Fitting.{behind_none, no_word_left}
use Rattle.dm_shape.proofs.shape.fit.Goals as goal

pub returns-in_default : goal.returns-in_default
returns-in_default c =
    sym (sym c.loop-sort.invariant ∙ ap (fit (drop c.loop-sort.sort-index c.args.sorts.now) c.args.lists) (behind_none 32 c.loop-sort.rest c.in_default.is) ∙ no_word_left c.args.sorts.now c.loop-sort.sort-index c.args.lists c.loop-sort-test.true)
