-- Numbers read digit by digit.
use Rattle.dm_reading.proofs.Names.{◌≡◌, ℕ, suc, ◌+◌, ◌*◌, ◌<◌, ◌≤◌, ◌==◌, nat_lt, Bool, true, false, ◌||◌, if◌then◌else◌, List, [], ◌∷◌, length, drop, drop-cons, get_or, refl, ap, sym, ◌∙◌, arith, Some, None, Option, nat_tests, option_and_then, if_below}
use Rattle.dm_reading.proofs.Names.{number_after, digit, Ten, pow-le-pow_right, ◌^◌}

next_is : (o : Option ℕ) (f : ℕ → Option ℕ) (d : ℕ) → o ≡ Some d → option_and_then f o ≡ f d
next_is o f d e = ap (option_and_then f) e

none_is : (o : Option ℕ) (f : ℕ → Option ℕ) → o ≡ None → option_and_then f o ≡ None
none_is o f e = ap (option_and_then f) e

from_here : (w : List ℕ) (i : ℕ) → i < length w → drop i w ≡ get_or w i 0 ∷ drop (i + 1) w
from_here w i h = let next : suc i ≡ i + 1 = omega arith in drop-cons w i 0 h ∙ ap (λ (k : ℕ). get_or w i 0 ∷ drop k w) next

-- one more digit
pub after_digit : (w : List ℕ) (i n d : ℕ) → i < length w → digit Ten (get_or w i 0) ≡ Some d → number_after n (drop i w) ≡ number_after (10 * n + d) (drop (i + 1) w)
after_digit w i n d h e =
    ap (λ xs. number_after n xs) (from_here w i h) ∙ next_is (digit Ten (get_or w i 0)) (λ d. number_after (10 * n + d) (drop (i + 1) w)) d e

-- something else than a digit
pub after_other : (w : List ℕ) (i n : ℕ) → i < length w → digit Ten (get_or w i 0) ≡ None → number_after n (drop i w) ≡ None
after_other w i n h e =
    ap (λ xs. number_after n xs) (from_here w i h) ∙ none_is (digit Ten (get_or w i 0)) (λ d. number_after (10 * n + d) (drop (i + 1) w)) e

too_great : (limit n : ℕ) → limit ≤ n → if_below limit (Some n) ≡ None
too_great limit n h = grind (arith, nat_tests)

-- digits only make a number greater
still_great : (o : Option ℕ) (limit n : ℕ) (bs : List ℕ) → ((m : ℕ) → limit ≤ m → if_below limit (number_after m bs) ≡ None) → limit ≤ n → if_below limit (option_and_then (λ d. number_after (10 * n + d) bs) o) ≡ None
still_great (Some d) limit n bs go h = go (10 * n + d) (omega arith)
still_great None limit n bs go h = refl

great_stays : (limit n : ℕ) (bs : List ℕ) → limit ≤ n → if_below limit (number_after n bs) ≡ None
great_stays limit n [] h = too_great limit n h
great_stays limit n (b ∷ bs) h = still_great (digit Ten b) limit n bs (λ m k. great_stays limit m bs k) h

at_least : (limit n : ℕ) → if_below limit (Some n) ≡ None → limit ≤ n
at_least limit n e = grind (arith, nat_tests)

-- a number that is too great before its last digit is too great
pub after_great : (limit n : ℕ) (bs : List ℕ) → if_below limit (Some n) ≡ None → if_below limit (number_after n bs) ≡ None
after_great limit n bs e = great_stays limit n bs (at_least limit n e)

pub below_is : (limit n : ℕ) → n < limit → if_below limit (Some n) ≡ Some n
below_is limit n h = grind (arith, nat_tests)

pub is_below : (limit n m : ℕ) → if_below limit (Some n) ≡ Some m → (n ≡ m) × (m < limit)
is_below limit n m e = (test (nat_lt n limit) refl e)
  where
    test : (t : Bool) → nat_lt n limit ≡ t → (if t then Some n else None) ≡ Some m → (n ≡ m) × (m < limit)
    test true k f = let g : n ≡ m = cc in (g, grind (arith, nat_tests, k, g))
    test false k f = absurd (cc)

-- so many digits leave room for one more
pub room_for_digit : (n i : ℕ) → n < 10 ^ i → i < 19 → n < 10 ^ 18
room_for_digit n i small few = let most : 10 ^ i ≤ 10 ^ 18 = pow-le-pow_right {n = 10} (omega arith) {i = i} {j = 18} (omega arith) in omega arith
