use Rattle.dm_check.proofs.Names.{◌≡◌, ◌∷◌, ◌++◌, List, ℕ, ap, refl, sym, subst, ◌∙◌, pieces, end_text, judged_from, IsAt}
use Rattle.dm_check.specs.Judge as judge
use Rattle.dm_check.proofs.Judging.{falls_at_end, refused_as}
use Rattle.dm_check.proofs.follow.follow_end.Goals as goal

pub returns-in-None-clause-refused : goal.returns-in-None-clause-refused
returns-in-None-clause-refused c = λ k others n.
    let due = judge.End (c.args.due.now ∷ others) n in
    let said : c.as_slice.result.now ≡ end_text c.args.due.now = c.as_slice.ensures.value ∙ c.in_default.ensures.written ∙ ap (λ (xs : List ℕ). xs ++ end_text c.args.due.now) c.clear.ensures.items in
    refused_as (judged_from k due c.args.number (pieces 10 c.args.text.now)) c.refused.result c.args.number c.unless_none.result c.refused.ensures
    (c.unless_none.ensures k due c.args.number
    (falls_at_end k c.args.due.now others n c.args.number c.args.text.now (λ rest e. c.in-None.ensures.none rest (e ∙ ap (λ (t : List ℕ). t ++ rest) (sym said)))))

pub returns-in-None-clause-there : goal.returns-in-None-clause-there
returns-in-None-clause-there c = subst (IsAt c.args.number) (sym c.refused.ensures) refl
