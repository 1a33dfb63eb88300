-- A word behind a space.
use Rattle.dm_text.proofs.Kept.{kept-all, kept-too}
use Rattle.dm_text.proofs.word.put_word.Goals as goal

pub returns-clause-ok : goal.returns-clause-ok
returns-clause-ok c = rw c.in_ok-push.ensures.items at c.put_bare.ensures.ok

pub returns-clause-err : goal.returns-clause-err
returns-clause-err c = kept-too _ _ _ _ _ c.in_ok-push.ensures.items c.put_bare.ensures.err

pub returns-in_err-push-clause-err : goal.returns-in_err-push-clause-err
returns-in_err-push-clause-err c = kept-all _ _ _ c.in_err-push.ensures.items
