use Rattle.dm_text.proofs.Kept.{behind, further, kept-as}
use Rattle.dm_text.proofs.word.put_id.Goals as goal

pub returns-in_err-push-clause-err : goal.returns-in_err-push-clause-err
returns-in_err-push-clause-err c = kept-as _ _ _ _ (behind _ _ _ c.in_ok-put_pid.ensures.ok) c.in_err-push.ensures.items

pub returns-in_err-put_number-clause-err : goal.returns-in_err-put_number-clause-err
returns-in_err-put_number-clause-err c =
    kept-as _ _ _ _ (further _ _ _ _ (behind _ _ _ c.in_ok-put_pid.ensures.ok) c.in_ok-push.ensures.items) c.in_err-put_number.ensures.err

pub returns-in_err-push-2-clause-err : goal.returns-in_err-push-2-clause-err
returns-in_err-push-2-clause-err c =
    kept-as _ _ _ _ (further _ _ _ _ (further _ _ _ _ (behind _ _ _ c.in_ok-put_pid.ensures.ok) c.in_ok-push.ensures.items) c.in_ok-put_number.ensures.ok) c.in_err-push-2.ensures.items
