-- A byte is no digit, or the number gets too great, or all digits are read.
use Rattle.dm_reading.proofs.Names.{◌≡◌, ◌+◌, ◌*◌, ◌<◌, ◌≤◌, [], length, drop, ap, sym, ◌∙◌, arith, drop-length, if_below, number_after}
use Rattle.dm_reading.proofs.Decimal.{after_digit, after_other, after_great, below_is, is_below}
use Rattle.dm_reading.proofs.numbers.long_number.Goals as goal

pub returns-in_err-digit-clause-value : goal.returns-in_err-digit-clause-value
returns-in_err-digit-clause-value c =
    let none = after_other c.args.word.now c.loop-byte.byte-index c.loop-byte.n c.loop-byte-test.true (sym c.decimal_digit.ensures.value ∙ c.in_err-digit.was) in
    c.from_residual.ensures ∙ sym (ap (λ o. if_below (c.args.most + 1) o) (sym c.loop-byte.invariant.so_far ∙ none))

pub returns-in_err-n-clause-value : goal.returns-in_err-n-clause-value
returns-in_err-n-clause-value c =
    let more = after_digit c.args.word.now c.loop-byte.byte-index c.loop-byte.n c.in_ok-digit.digit c.loop-byte-test.true (sym c.decimal_digit.ensures.value ∙ c.in_ok-digit.was) in
    let great = after_great (c.args.most + 1) (10 * c.loop-byte.n + c.in_ok-digit.digit) (drop (c.loop-byte.byte-index + 1) c.args.word.now) (sym c.with_digit_within.ensures ∙ c.in_err-n.was) in
    c.from_residual-in_err-n.ensures ∙ sym (ap (λ o. if_below (c.args.most + 1) o) (sym c.loop-byte.invariant.so_far ∙ more) ∙ great)

pub loop-byte-preserved : goal.loop-byte-preserved
loop-byte-preserved c =
    let more = after_digit c.args.word.now c.loop-byte.byte-index c.loop-byte.n c.in_ok-digit.digit c.loop-byte-test.true (sym c.decimal_digit.ensures.value ∙ c.in_ok-digit.was) in
    let is = is_below (c.args.most + 1) (10 * c.loop-byte.n + c.in_ok-digit.digit) c.in_ok-n.n (sym c.with_digit_within.ensures ∙ c.in_ok-n.was) in
    let within : c.in_ok-n.n < c.args.most + 1 = is.1 in
    record {
      within = omega (arith, within);
      so_far = ap (λ n. number_after n (drop (c.loop-byte.byte-index + 1) c.args.word.now)) (sym is.0) ∙ sym more ∙ c.loop-byte.invariant.so_far;
    }

pub returns-clause-value : goal.returns-clause-value
returns-clause-value c =
    let all : c.loop-byte.byte-index ≡ length c.args.word.now = omega arith in
    let end : drop c.loop-byte.byte-index c.args.word.now ≡ [] = ap (λ k. drop k c.args.word.now) all ∙ drop-length c.args.word.now in
    let within : c.loop-byte.n ≤ c.args.most = c.loop-byte.invariant.within in
    sym (ap (λ o. if_below (c.args.most + 1) o) (sym c.loop-byte.invariant.so_far ∙ ap (λ xs. number_after c.loop-byte.n xs) end) ∙ below_is (c.args.most + 1) c.loop-byte.n (omega (arith, within)))
