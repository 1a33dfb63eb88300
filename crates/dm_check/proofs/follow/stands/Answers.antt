use Rattle.dm_check.proofs.Names.{◌≡◌, ◌==◌, ℕ, List, [], ◌∷◌, length, false, ap, sym, ◌∙◌, pieces, behind_none, split_some, one_piece, some_piece, judged_from}
use Rattle.dm_check.proofs.Judging.{no_feed, no_shape_from}
use Rattle.dm_check.proofs.follow.stands.Goals as goal

pub returns-in-None : goal.returns-in-None
returns-in-None c = λ k due number.
    let text : List ℕ = c.args.text.now in
    let line : List ℕ = c.split.result.0.now in
    let cut : pieces 10 text ≡ line ∷ [] = c.split.ensures ∙ ap (λ ps. line ∷ ps) (behind_none 10 c.split.result.1 c.in-None.is) in
    let some : (length line == 0) ≡ false = ap (λ t. length t == 0) (sym (one_piece 10 text line cut)) ∙ sym c.is_empty.ensures ∙ c.if-is_empty.false in
    ap (judged_from k due number) cut ∙ no_feed k due number line some

pub returns-else-has_shape : goal.returns-else-has_shape
returns-else-has_shape c = λ k due number.
    ap (judged_from k due number) (split_some 10 c.args.text.now c.split.result.0.now c.split.result.1 c.in-Some.others c.split.ensures c.in-Some.is)
    ∙ no_shape_from k due number c.split.result.0.now (pieces 10 c.in-Some.others.now) (some_piece 10 c.in-Some.others.now) (sym c.has_shape.ensures ∙ c.if-has_shape.false)
