use Rattle.dm_check.proofs.Names.{◌≡◌, ◌+◌, ◌==◌, false, ◌++◌, ◌∷◌, [], ℕ, length, drop, get_or, refl, sym, ◌∙◌, subst, arith, EndLine, pieces, end_text, EndsStray, IsAt, RefusedSo, judged_from}
use Rattle.dm_check.specs.Judge as judge
use Rattle.dm_check.proofs.Following.{end_off, end_on, ends_done, ends_left, read_end, read_no_end, shorter_end}
use Rattle.dm_check.proofs.Judging.{if_err, none_left, refused_as}
use Rattle.dm_check.proofs.Straying.{ends_stray, falls_behind}
use Rattle.dm_check.proofs.follow.follow_ends.Goals as goal

pub ends-init : goal.ends-init
ends-init c = record { goes = λ k n full. refl; read = read_no_end c.args.ends.now c.args.text.now; number = omega arith; room = omega arith }

pub returns-in_err-rest-clause-refused : goal.returns-in_err-rest-clause-refused
returns-in_err-rest-clause-refused c = λ k n full.
    let ends = c.args.ends.now in
    let i : ℕ = c.ends.due-index in
    let d : EndLine = c.due-item.result in
    if_err c.from_residual.result c.in_err-rest.field-0.0 (RefusedSo (judged_from k (judge.End ends n) c.args.number (pieces 10 c.args.text.now))) c.from_residual.ensures
    (end_off k ends i d n c.args.number c.ends.at c.args.text.now c.ends.rest.now c.in_err-rest.field-0.0 c.ends-test.true (c.ends.invariant.goes k n full)
    (subst (λ (l : EndLine). RefusedSo (judged_from k (judge.End (l ∷ drop (i + 1) ends) n) c.ends.at (pieces 10 c.ends.rest.now)) c.in_err-rest.field-0.0) c.due-item.is
    (c.in_err-rest.ensures.refused k (drop (i + 1) ends) n)))

pub ends-preserved : goal.ends-preserved
ends-preserved c =
    let ends = c.args.ends.now in
    let i : ℕ = c.ends.due-index in
    let d : EndLine = c.due-item.result in
    let here : c.ends.rest.now ≡ end_text (get_or ends i d) ++ c.in_ok-rest.rest.now = subst (λ (l : EndLine). c.ends.rest.now ≡ end_text l ++ c.in_ok-rest.rest.now) c.due-item.is c.in_ok-rest.ensures.read in
    record {
      goes = λ k n full. end_on k ends i d n c.args.number c.ends.at c.args.text.now c.ends.rest.now c.in_ok-rest.rest.now c.ends-test.true c.requires.fits full (c.ends.invariant.goes k n full) here;
      read = read_end ends i d c.args.text.now c.ends.rest.now c.in_ok-rest.rest.now c.ends-test.true c.ends.invariant.read here;
      number = omega (arith, c.ends.invariant.number);
      room = omega (arith, c.ends.invariant.room, shorter_end d c.ends.rest.now c.in_ok-rest.rest.now c.in_ok-rest.ensures.read);
    }

pub returns-then-is_empty-clause-ended : goal.returns-then-is_empty-clause-ended
returns-then-is_empty-clause-ended c = λ k n full.
    let over : c.ends.due-index ≡ length c.args.ends.now = omega (arith, c.ends-test.false, c.ends.auto.due-index-end) in
    let none : c.ends.rest.now ≡ [] = none_left c.ends.rest.now (sym c.is_empty.ensures ∙ c.if-is_empty.true) in
    ends_done k c.args.ends.now c.ends.due-index n c.args.number c.ends.at c.args.text.now c.ends.rest.now over none (c.ends.invariant.goes k n full)

pub returns-in_err-rest-clause-stray : goal.returns-in_err-rest-clause-stray
returns-in_err-rest-clause-stray c =
    if_err c.from_residual.result c.in_err-rest.field-0.0 (EndsStray c.args.ends.now c.args.text.now c.args.number) c.from_residual.ensures
    (ends_stray c.args.ends.now c.ends.due-index c.args.number c.ends.at c.args.text.now c.ends.rest.now c.in_err-rest.field-0.0 (omega (arith, c.ends-test.true)) c.ends.invariant.number c.ends.invariant.read c.in_err-rest.ensures.there)

pub returns-else-is_empty-clause-stray : goal.returns-else-is_empty-clause-stray
returns-else-is_empty-clause-stray c =
    let over : c.ends.due-index ≡ length c.args.ends.now = omega (arith, c.ends-test.false, c.ends.auto.due-index-end) in
    ends_stray c.args.ends.now c.ends.due-index c.args.number c.ends.at c.args.text.now c.ends.rest.now c.refused.result (omega (arith, over)) c.ends.invariant.number c.ends.invariant.read (subst (IsAt c.ends.at) (sym c.refused.ensures) refl)

pub returns-else-is_empty-clause-refused : goal.returns-else-is_empty-clause-refused
returns-else-is_empty-clause-refused c = λ k n full.
    let ends = c.args.ends.now in
    let over : c.ends.due-index ≡ length ends = omega (arith, c.ends-test.false, c.ends.auto.due-index-end) in
    let some : (length c.ends.rest.now == 0) ≡ false = sym c.is_empty.ensures ∙ c.if-is_empty.false in
    refused_as (judged_from k (judge.End ends n) c.args.number (pieces 10 c.args.text.now)) c.refused.result c.ends.at c.unless_none.result c.refused.ensures
    (ends_left k ends c.ends.due-index n c.args.number c.ends.at c.args.text.now c.ends.rest.now over (c.ends.invariant.goes k n full) ∙ c.unless_none.ensures k (judge.End [] n) c.ends.at (falls_behind k n c.ends.at c.ends.rest.now some))
