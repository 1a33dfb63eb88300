use Rattle.dm_text.proofs.Names.{◌++◌, ap, sym, ◌∙◌}
use Rattle.dm_text.proofs.Numbers.{two_digits}
use Rattle.dm_text.proofs.word.put_two_digits.Goals as goal

pub returns-clause-ok : goal.returns-clause-ok
returns-clause-ok c = c.in_ok-extend_from_slice.ensures.items ∙ ap (λ ds. c.args.into.now.items ++ ds) (sym (two_digits c.args.n c.requires.0 c.requires.1))
