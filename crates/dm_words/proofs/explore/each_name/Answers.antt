use Rattle.dm_words.proofs.Names.{rules, ◌≡◌, ap, sym, ◌∙◌, arith, None, stuck_name}
use Rattle.dm_words.proofs.Places.{all_are_read, none_read, one_read, one_says_none}
use Rattle.dm_words.proofs.explore.each_name.Goals as goal

pub loop-place-init : goal.loop-place-init
loop-place-init c = none_read stuck_name (λ w. w.now) c.args.words.now

pub returns-in_err-stuck_name : goal.returns-in_err-stuck_name
returns-in_err-stuck_name c =
    let l = c.loop-place in
    let none : c.stuck_name.result ≡ None = search rules in
    c.from_residual.ensures ∙ sym (one_says_none stuck_name (λ w. w.now) c.args.words.now l.place _ l.found (omega (arith, c.loop-place-test.true, l.auto.place-end)) (sym (ap stuck_name c.as_bytes.ensures.value) ∙ sym c.stuck_name.ensures ∙ none) l.invariant)

pub loop-place-preserved : goal.loop-place-preserved
loop-place-preserved c =
    let l = c.loop-place in
    one_read stuck_name (λ w. w.now) c.args.words.now l.place _ l.found c.in_ok-stuck_name.field-0 (omega (arith, c.loop-place-test.true, l.auto.place-end)) (sym (ap stuck_name c.as_bytes.ensures.value) ∙ sym c.stuck_name.ensures ∙ c.in_ok-stuck_name.was) l.invariant

pub returns : goal.returns
returns c = all_are_read stuck_name (λ w. w.now) c.args.words.now c.loop-place.place c.loop-place.found (omega (arith, c.loop-place-test.false, c.loop-place.auto.place-end)) c.loop-place.invariant
