use Rattle.dm_check.proofs.Names.{◌++◌, ap, length, sym, ◌∙◌, false≢true, Decides-eqb, take_rest, starts_is}
use Rattle.dm_check.proofs.follow.behind.Goals as goal

pub returns-then-starts_with-clause-some : goal.returns-then-starts_with-clause-some
returns-then-starts_with-clause-some c =
    (starts_is Decides-eqb c.args.text.now c.args.begin.now c.starts_with.result c.starts_with.ensures.value).0 c.if-starts_with.true
    ∙ ap (λ t. c.args.begin.now ++ t) (sym (take_rest c.args.text.now (length c.args.begin.now)))

pub returns-else-starts_with-clause-none : goal.returns-else-starts_with-clause-none
returns-else-starts_with-clause-none c = λ others e. false≢true (sym c.if-starts_with.false ∙ (starts_is Decides-eqb c.args.text.now c.args.begin.now c.starts_with.result c.starts_with.ensures.value).1 others e)
