use Rattle.dm_words.proofs.Names.{rules, ◌≡◌, ap, sym, ◌∙◌, arith, None, written_move}
use Rattle.dm_words.proofs.Places.{all_are_read, none_read, one_read, one_says_none}
use Rattle.dm_words.proofs.explore.each_move.Goals as goal

pub loop-place-init : goal.loop-place-init
loop-place-init c = none_read written_move (λ w. w.now) c.args.words.now

pub returns-in_err-written_move : goal.returns-in_err-written_move
returns-in_err-written_move c =
    let l = c.loop-place in
    let none : c.written_move.result ≡ None = search rules in
    c.from_residual.ensures ∙ sym (one_says_none written_move (λ w. w.now) c.args.words.now l.place _ l.found (omega (arith, c.loop-place-test.true, l.auto.place-end)) (sym (ap written_move c.as_bytes.ensures.value) ∙ sym c.written_move.ensures ∙ none) l.invariant)

pub loop-place-preserved : goal.loop-place-preserved
loop-place-preserved c =
    let l = c.loop-place in
    one_read written_move (λ w. w.now) c.args.words.now l.place _ l.found c.in_ok-written_move.field-0 (omega (arith, c.loop-place-test.true, l.auto.place-end)) (sym (ap written_move c.as_bytes.ensures.value) ∙ sym c.written_move.ensures ∙ c.in_ok-written_move.was) l.invariant

pub returns : goal.returns
returns c = all_are_read written_move (λ w. w.now) c.args.words.now c.loop-place.place c.loop-place.found (omega (arith, c.loop-place-test.false, c.loop-place.auto.place-end)) c.loop-place.invariant
