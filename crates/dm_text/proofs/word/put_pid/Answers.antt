-- A number, a point and a number.
use Rattle.std.specs.Prelude.{OnOk}
use Rattle.dm_text.proofs.Names.{◌≡◌, ℕ, List, ◌++◌, ap, subst, ◌∙◌, append_assoc, codes, decimal, Result, Ok, Err}
use Rattle.dm_text.proofs.Kept.{behind, further, kept-all, kept-as, kept-if}
use Rattle.dm_text.proofs.word.put_pid.Goals as goal

-- three pieces, the last by a call that ends the function
three-put : {T E : Type 0} → (r : Result T E) (a h m k t u now : List ℕ) → t ≡ a ++ h → u ≡ t ++ m → OnOk r (now ≡ u ++ k) → OnOk r (now ≡ a ++ (h ++ m ++ k))
three-put (Err y) a h m k t u now e f g = tt
three-put (Ok y) a h m k t u now e f g =
    g ∙ ap (λ (s : List ℕ). s ++ k) (f ∙ ap (λ (s : List ℕ). s ++ m) e ∙ append_assoc a h m) ∙ append_assoc a (h ++ m) k

pub returns-clause-ok : goal.returns-clause-ok
returns-clause-ok c =
    three-put _ _ (decimal c.args.pid.home) (codes ".") (decimal c.args.pid.num) _ _ _
    (c.in_ok-put_number.ensures.ok ∙ ap (λ (n : ℕ). c.args.into.now.items ++ decimal n) c.from.ensures)
    c.in_ok-push.ensures.items
    (subst (λ (n : ℕ). OnOk c.put_number-2.result (c.put_number-2.new.into.items ≡ c.push.new.list.items ++ decimal n)) c.from-2.ensures c.put_number-2.ensures.ok)

pub returns-clause-err : goal.returns-clause-err
returns-clause-err c = kept-if _ _ _ _ (further _ _ _ _ (behind _ _ _ c.in_ok-put_number.ensures.ok) c.in_ok-push.ensures.items) c.put_number-2.ensures.err

pub returns-in_err-put_number-clause-err : goal.returns-in_err-put_number-clause-err
returns-in_err-put_number-clause-err c = kept-all _ _ _ c.in_err-put_number.ensures.err

pub returns-in_err-push-clause-err : goal.returns-in_err-push-clause-err
returns-in_err-push-clause-err c = kept-as _ _ _ _ (behind _ _ _ c.in_ok-put_number.ensures.ok) c.in_err-push.ensures.items
