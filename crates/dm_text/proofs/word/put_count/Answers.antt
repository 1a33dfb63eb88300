-- A line of a name and a number, word by word.
use Rattle.dm_text.proofs.Names.{ℕ, List, ◌++◌, ap, ◌∙◌, codes, decimal}
use Rattle.dm_text.proofs.Begun.{ended, named_first, word_more}
use Rattle.dm_text.proofs.Kept.{behind, further, kept-all, kept-as}
use Rattle.dm_text.proofs.word.put_count.Goals as goal

pub returns-clause-ok : goal.returns-clause-ok
returns-clause-ok c =
    ended _ _ _ _ _
    (word_more _ _ _ (decimal c.args.count) _ _ (named_first _ _ _ (c.in_ok-extend_from_slice.ensures.items ∙ ap (λ (n : List ℕ). c.args.into.now.items ++ n) c.as_bytes.ensures.value))
    (c.in_ok-extend_from_slice-2.ensures.items
    ∙ ap (λ (t : List ℕ). t ++ c.as_bytes-2.result.now) c.in_ok-push.ensures.items
    ∙ ap (λ (d : List ℕ). c.extend_from_slice.new.list.items ++ codes " " ++ d) (c.as_bytes-2.ensures.value ∙ c.format.ensures.text)))
    c.in_ok-push-2.ensures.items

pub returns-in_err-extend_from_slice-clause-err : goal.returns-in_err-extend_from_slice-clause-err
returns-in_err-extend_from_slice-clause-err c = kept-all _ _ _ c.in_err-extend_from_slice.ensures.items

pub returns-in_err-push-clause-err : goal.returns-in_err-push-clause-err
returns-in_err-push-clause-err c = kept-as _ _ _ _ (behind _ _ _ c.in_ok-extend_from_slice.ensures.items) c.in_err-push.ensures.items

pub returns-in_err-extend_from_slice-2-clause-err : goal.returns-in_err-extend_from_slice-2-clause-err
returns-in_err-extend_from_slice-2-clause-err c =
    kept-as _ _ _ _ (further _ _ _ _ (behind _ _ _ c.in_ok-extend_from_slice.ensures.items) c.in_ok-push.ensures.items) c.in_err-extend_from_slice-2.ensures.items

pub returns-in_err-push-2-clause-err : goal.returns-in_err-push-2-clause-err
returns-in_err-push-2-clause-err c =
    kept-as _ _ _ _ (further _ _ _ _ (further _ _ _ _ (behind _ _ _ c.in_ok-extend_from_slice.ensures.items) c.in_ok-push.ensures.items) c.in_ok-extend_from_slice-2.ensures.items) c.in_err-push-2.ensures.items
