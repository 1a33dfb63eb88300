-- Numbers in decimal, read back.
use Rattle.dm_text.proofs.Names.{◌≡◌, ℕ, zero, suc, ◌+◌, ◌-◌, ◌*◌, ◌/◌, ◌%◌, ◌^◌, ◌<◌, ◌≤◌, ◌==◌, nat_lt, nat_le, Bool, true, false, ◌&&◌, ◌||◌, if◌then◌else◌, List, [], ◌∷◌, ◌++◌, length, get_or, refl, ap, sym, ◌∙◌, append_assoc, arith}
use Rattle.dm_text.proofs.Names.{Some, None, length-append, decimal_digit, decimal_step, Option, decimal, and-false, nat_tests, ne_eqb, lt-ltb, le-ltb, decimal_by_steps_wide, get_or_append_left, number_after, read_number, is_padded, option_and_then}
use Rattle.dm_text.proofs.Pieces.{above, above-append}

-- what a digit adds
after_digit : (m d : ℕ) → d < 10 → number_after m ((48 + d) ∷ []) ≡ Some (10 * m + d)
after_digit m d h = grind (arith, nat_tests)

if_some : (t : Bool) (d : ℕ) (f : ℕ → Option ℕ) (m : ℕ) → option_and_then f (if t then Some d else None) ≡ Some m → (t ≡ true) × (f d ≡ Some m)
if_some true d f m h = (refl, h)
if_some false d f m h = absurd (cc)

after-append : (a m : ℕ) (xs ys : List ℕ) → number_after a xs ≡ Some m → number_after a (xs ++ ys) ≡ number_after m ys
after-append a m [] ys h = let e : a ≡ m = cc in ap (λ k. number_after k ys) e
after-append a m (b ∷ bs) ys h =
    let t : ((nat_le 48 b && nat_le b 57) ≡ true) × (number_after (10 * a + (b - 48)) bs ≡ Some m) = if_some (nat_le 48 b && nat_le b 57) (b - 48) (λ d. number_after (10 * a + d) bs) m h in
    rw t.0 (after-append (10 * a + (b - 48)) m bs ys t.1)

above_digit : (d : ℕ) → above 47 ((48 + d) ∷ []) ≡ true
above_digit d = let e : nat_lt 47 (48 + d) ≡ true = lt-ltb 47 (48 + d) (omega arith) in rw e refl

-- how the digits of a number read
record Digits (n : ℕ) (ds : List ℕ) : Type 0 where
  value : number_after 0 ds ≡ Some n
  bytes : above 47 ds ≡ true
  some : 0 < length ds
  first : 0 < n → 48 < get_or ds 0 0
  alone : n ≡ 0 → length ds ≡ 1

one_digit : (n : ℕ) → n < 10 → Digits n ((48 + n) ∷ [])
one_digit n h = record {
  value = after_digit 0 n h ∙ ap (λ k. Some k) (omega arith);
  bytes = above_digit n;
  some = omega arith;
  first = λ p. omega arith;
  alone = λ p. refl;
}

more_digits : (n : ℕ) (ds : List ℕ) → 10 ≤ n → Digits (n / 10) ds → Digits n (ds ++ ((48 + n % 10) ∷ []))
more_digits n ds h g = record {
  value = after-append 0 (n / 10) ds ((48 + n % 10) ∷ []) g.value ∙ after_digit (n / 10) (n % 10) (omega arith) ∙ ap (λ k. Some k) (omega arith);
  bytes = above-append 47 ds ((48 + n % 10) ∷ []) g.bytes (above_digit (n % 10));
  some = omega (arith, length-append ds ((48 + n % 10) ∷ []));
  first = λ p. rw (get_or_append_left ds ((48 + n % 10) ∷ []) 0 0 g.some) (g.first (omega arith));
  alone = λ p. absurd (omega arith);
}

digits_of_decimal : (n : ℕ) → n < 10 ^ 64 → Digits n (decimal n)
digits_of_decimal n h = decimal_by_steps_wide (λ m ds. Digits m ds) one_digit more_digits n h

pub above-decimal : (n : ℕ) → n < 10 ^ 64 → above 47 (decimal n) ≡ true
above-decimal n h = (digits_of_decimal n h).bytes

unpadded : (n : ℕ) (ds : List ℕ) → Digits n ds → (length ds == 0 || is_padded ds) ≡ false
unpadded zero ds g =
    let e : (length ds == 0) ≡ false = ne_eqb (length ds) 0 (λ p. absurd (omega (arith, g.some))) in
    let l : length ds ≡ 1 = g.alone refl in
    let f : nat_lt 1 (length ds) ≡ false = le-ltb 1 (length ds) (omega arith) in
    rw (e, f) (and-false (get_or ds 0 0 == 48))
unpadded (suc n) ds g =
    let e : (length ds == 0) ≡ false = ne_eqb (length ds) 0 (λ p. absurd (omega (arith, g.some))) in
    let l : 48 < get_or ds 0 0 = g.first (omega arith) in
    let f : (get_or ds 0 0 == 48) ≡ false = ne_eqb (get_or ds 0 0) 48 (λ p. absurd (omega arith)) in
    rw (e, f) refl

pub read-decimal : (limit n : ℕ) → n < limit → n < 10 ^ 64 → read_number limit (decimal n) ≡ Some n
unfolding read_number
read-decimal limit n l h =
    let g : Digits n (decimal n) = digits_of_decimal n h in
    let e : nat_lt n limit ≡ true = lt-ltb n limit l in
    rw (unpadded n (decimal n) g, g.value, e) refl

-- a number of two digits
pub two_digits : (n : ℕ) → 10 ≤ n → n < 100 → decimal n ≡ (48 + n / 10) ∷ (48 + n % 10) ∷ []
two_digits n ge lt = decimal_step n ge (omega arith) ∙ ap (λ ds. ds ++ (48 + n % 10) ∷ []) (decimal_digit (n / 10) (omega arith))

-- a number of three digits
three_digits : (n : ℕ) → 100 ≤ n → n < 1000 → decimal n ≡ (48 + n / 100) ∷ (48 + n % 100 / 10) ∷ (48 + n % 100 % 10) ∷ []
three_digits n ge lt =
    let a : n / 10 / 10 ≡ n / 100 = omega arith in
    let b : n / 10 % 10 ≡ n % 100 / 10 = omega arith in
    let d : n % 10 ≡ n % 100 % 10 = omega arith in
    rw (decimal_step n (omega arith) (omega arith), two_digits (n / 10) (omega arith) (omega arith), a, b, ← d) refl

-- a number that is put digit by digit
pub two_put : (old one both : List ℕ) (n a b : ℕ) → a ≡ 48 + n / 10 → b ≡ 48 + n % 10 → one ≡ old ++ a ∷ [] → both ≡ one ++ b ∷ [] → both ≡ old ++ (48 + n / 10) ∷ (48 + n % 10) ∷ []
two_put old one both n a b p q e f =
    f
    ∙ ap (λ t. t ++ b ∷ []) e
    ∙ append_assoc old (a ∷ []) (b ∷ [])
    ∙ ap (λ x. old ++ x ∷ b ∷ []) p
    ∙ ap (λ y. old ++ (48 + n / 10) ∷ y ∷ []) q

pub three_put : (old one all : List ℕ) (n : ℕ) → 100 ≤ n → n < 1000 → one ≡ old ++ (48 + n / 100) ∷ [] → all ≡ one ++ (48 + n % 100 / 10) ∷ (48 + n % 100 % 10) ∷ [] → all ≡ old ++ decimal n
three_put old one all n ge lt e f =
    f
    ∙ ap (λ t. t ++ (48 + n % 100 / 10) ∷ (48 + n % 100 % 10) ∷ []) e
    ∙ append_assoc old ((48 + n / 100) ∷ []) ((48 + n % 100 / 10) ∷ (48 + n % 100 % 10) ∷ [])
    ∙ ap (λ ds. old ++ ds) (sym (three_digits n ge lt))
