-- The words of a line.
use Rattle.dm_reading.proofs.Names.{ℕ, zero, suc, Bool, true, false, not, ◌==◌, ◌≡◌, ◌+◌, ◌<◌, ◌≤◌, List, [], ◌∷◌, length, take, drop, get_or, add-zero, refl, ap, sym, ◌∙◌, arith, position, Some, None, length-take-le, get_or-drop, nat_tests, drop-length}
use Rattle.dm_reading.proofs.Names.{position-Some, words_between}
use Rattle.dm_reading.proofs.Cuts.{cut-position, cut-whole, position-None}

-- a byte between words before them
words-skip : (test : ℕ → Bool) (x : ℕ) (xs : List ℕ) → test x ≡ true → words_between test (x ∷ xs) ≡ words_between test xs
unfolding words_between
words-skip test x xs e = rw e refl

-- such bytes before the words
words-drop : (test : ℕ → Bool) (xs : List ℕ) (i : ℕ) → i ≤ length xs → ((k : ℕ) → k < i → test (get_or xs k 0) ≡ true) → words_between test xs ≡ words_between test (drop i xs)
words-drop test xs zero h q = refl
words-drop test [] (suc i) h q = refl
words-drop test (x ∷ xs) (suc i) h q =
    words-skip test x xs (q 0 (omega arith)) ∙ words-drop test xs i (omega arith) (λ k l. q (suc k) (omega arith))

-- no word
words-nil : (test : ℕ → Bool) → words_between test [] ≡ []
unfolding words_between
words-nil test = refl

-- what passes, for the test that looks for others
passes : (b : Bool) → not b ≡ false → b ≡ true
passes true e = refl
passes false e = absurd (cc)

-- nothing but bytes between words
pub words-none : (test : ℕ → Bool) (xs : List ℕ) → position (λ c. not (test c)) xs ≡ None → words_between test xs ≡ []
words-none test xs e =
    let q = position-None (λ c. not (test c)) xs e in
    words-drop test xs (length xs) (omega arith) (λ k l. passes (test (get_or xs k 0)) (q k l)) ∙ ap (words_between test) (drop-length xs) ∙ words-nil test

-- the words begin behind them
pub words-start : (test : ℕ → Bool) (xs : List ℕ) (i : ℕ) → position (λ c. not (test c)) xs ≡ Some i → words_between test xs ≡ words_between test (drop i xs)
words-start test xs i e =
    let h = position-Some (λ c. not (test c)) xs i 0 e in
    words-drop test xs i (omega (arith, h.0)) (λ k l. passes (test (get_or xs k 0)) (h.2 k l))

-- the first word ends at the next
pub words-first : (test : ℕ → Bool) (xs : List ℕ) (i : ℕ) → position test xs ≡ Some i → 0 < i → words_between test xs ≡ take i xs ∷ words_between test (drop (i + 1) xs)
unfolding words_between
words-first test xs i e l =
    let h = position-Some test xs i 0 e in
    let f : length (take i xs) ≡ i = length-take-le i xs (omega (arith, h.0)) in
    let g : not (length (take i xs) == 0) ≡ true = grind (arith, nat_tests, f) in
    rw (cut-position test xs i e, g) refl

-- or it is all
pub words-whole : (test : ℕ → Bool) (xs : List ℕ) → position test xs ≡ None → 0 < length xs → words_between test xs ≡ xs ∷ words_between test []
unfolding words_between
words-whole test xs e l =
    let g : not (length xs == 0) ≡ true = grind (arith, nat_tests) in
    rw (cut-whole test xs e l, g) refl

apart : (b : Bool) → b ≡ true → not b ≡ true → ⊥
apart true a e = cc
apart false a e = cc

-- what the words begin with stands not between words
pub start_is_word : (test : ℕ → Bool) (xs ys : List ℕ) (i j : ℕ) → position (λ c. not (test c)) xs ≡ Some i → ys ≡ drop i xs → position test ys ≡ Some j → 0 < j
start_is_word test xs ys i zero e d f =
    let h = position-Some (λ c. not (test c)) xs i 0 e in
    let g = position-Some test ys zero 0 f in
    let first : get_or ys 0 0 ≡ get_or xs i 0 = rw (d, get_or-drop i xs 0 0) (ap (λ (k : ℕ). get_or xs k 0) (add-zero i)) in
    let a : test (get_or xs i 0) ≡ true = ap test (sym first) ∙ g.1 in
    absurd (apart (test (get_or xs i 0)) a h.1)
start_is_word test xs ys i (suc j) e d f = omega arith
