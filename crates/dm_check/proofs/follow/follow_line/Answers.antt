use Rattle.dm_check.proofs.Names.{◌≡◌, ◌++◌, List, ℕ, ap, ◌∙◌, text}
use Rattle.dm_check.proofs.Judging.{line_stands}
use Rattle.dm_check.proofs.follow.follow_line.Goals as goal

pub returns-in-Some-clause-goes : goal.returns-in-Some-clause-goes
returns-in-Some-clause-goes c = λ k ls es fits.
    let said : c.as_slice.result.now ≡ text c.args.due.now = c.as_slice.ensures.value ∙ c.in_default.ensures.written ∙ ap (λ (xs : List ℕ). xs ++ text c.args.due.now) c.clear.ensures.items in
    line_stands k c.args.due.now ls es c.args.number c.args.text.now c.in-Some.rest.now fits (c.in-Some.ensures.some ∙ ap (λ (t : List ℕ). t ++ c.in-Some.rest.now) said)
