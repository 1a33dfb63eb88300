-- Words, and the line feed behind them.
use Rattle.dm_text.proofs.Names.{List, ℕ, ◌++◌, ap, ◌∙◌, codes}
use Rattle.dm_text.proofs.Kept.{behind, kept-as}
use Rattle.dm_text.proofs.word.put_last.Goals as goal

pub returns-clause-ok : goal.returns-clause-ok
returns-clause-ok c = c.in_ok-push.ensures.items ∙ ap (λ (t : List ℕ). t ++ codes "\n") c.in_ok-put_words.ensures.ok

pub returns-in_err-push-clause-err : goal.returns-in_err-push-clause-err
returns-in_err-push-clause-err c = kept-as _ _ _ _ (behind _ _ _ c.in_ok-put_words.ensures.ok) c.in_err-push.ensures.items
