-- Cutting a list at the first item that passes a test.
use Rattle.dm_reading.proofs.Names.{ℕ, zero, suc, Bool, true, false, ◌==◌, ◌≡◌, ◌+◌, ◌-◌, ◌<◌, ◌≤◌, List, [], ◌∷◌, length, take, drop, get_or, length-drop, refl, ap, arith, position, position_or_len, Some, None, take_all, nat_tests, position-Some}
use Rattle.dm_reading.proofs.Names.{cut, pieces}

-- by the first item, where the first that passes would stand behind the end
none_passes-first : (test : ℕ → Bool) (x : ℕ) (xs : List ℕ) (k : ℕ) (b : Bool) → test x ≡ b → length (x ∷ xs) ≤ position_or_len test (x ∷ xs) → k < length (x ∷ xs) → (length xs ≤ position_or_len test xs → (k : ℕ) → k < length xs → test (get_or xs k 0) ≡ false) → test (get_or (x ∷ xs) k 0) ≡ false
none_passes-first test x xs k true e h l more = absurd (omega (arith, rw e at h))
none_passes-first test x xs zero false e h l more = e
none_passes-first test x xs (suc k) false e h l more =
    let g : length (x ∷ xs) ≤ 1 + position_or_len test xs = rw e at h in
    more (omega arith) k (omega arith)

-- where the first item that passes would stand behind the end, none passes
none_passes : (test : ℕ → Bool) (xs : List ℕ) → length xs ≤ position_or_len test xs → (k : ℕ) → k < length xs → test (get_or xs k 0) ≡ false
none_passes test [] h k l = absurd (omega arith)
none_passes test (x ∷ xs) h k l = none_passes-first test x xs k (test x) refl h l (λ j. none_passes test xs j)

-- where no place is found, none passes
pub position-None : (test : ℕ → Bool) (xs : List ℕ) → position test xs ≡ None → (k : ℕ) → k < length xs → test (get_or xs k 0) ≡ false
position-None test xs e = none_passes test xs (grind (arith, nat_tests, e))

-- a place that is found is in the list
pub place_below : (test : ℕ → Bool) (xs : List ℕ) (i : ℕ) → position test xs ≡ Some i → i < length xs
place_below test xs i e = (position-Some test xs i 0 e).0

-- what is left behind a place
pub take_rest : (k : ℕ) (xs : List ℕ) → take (length xs - k) (drop k xs) ≡ drop k xs
take_rest k xs = take_all (length xs - k) (drop k xs) (omega (arith, length-drop k xs))

-- one byte more before what is left
pub drop-more : (x : ℕ) (xs : List ℕ) (i : ℕ) → drop (suc i + 1) (x ∷ xs) ≡ drop (i + 1) xs
drop-more x xs i =
    let e : suc i + 1 ≡ suc (i + 1) = omega arith in
    ap (λ (k : ℕ). drop k (x ∷ xs)) e

-- behind the first item that passes, the rest is cut
cut-at : (test : ℕ → Bool) (xs : List ℕ) (i : ℕ) → i < length xs → test (get_or xs i 0) ≡ true → ((k : ℕ) → k < i → test (get_or xs k 0) ≡ false) → cut test xs ≡ take i xs ∷ cut test (drop (i + 1) xs)
cut-at test [] i h p q = absurd (omega arith)
cut-at test (x ∷ xs) zero h p q = rw p refl
cut-at test (x ∷ xs) (suc i) h p q =
    let e : cut test xs ≡ take i xs ∷ cut test (drop (i + 1) xs) = cut-at test xs i (omega arith) p (λ k l. q (suc k) (omega arith)) in
    let f : test x ≡ false = q 0 (omega arith) in
    rw (f, e, drop-more x xs i) refl

-- where none passes, there is one piece
cut-none : (test : ℕ → Bool) (x : ℕ) (xs : List ℕ) → ((k : ℕ) → k < length (x ∷ xs) → test (get_or (x ∷ xs) k 0) ≡ false) → cut test (x ∷ xs) ≡ (x ∷ xs) ∷ []
cut-none test x [] q = let f : test x ≡ false = q 0 (omega arith) in rw f refl
cut-none test x (y ∷ xs) q =
    let f : test x ≡ false = q 0 (omega arith) in
    let e : cut test (y ∷ xs) ≡ (y ∷ xs) ∷ [] = cut-none test y xs (λ k l. q (suc k) (omega arith)) in
    rw (f, e) refl

-- a list is cut at the first item that passes
pub cut-position : (test : ℕ → Bool) (xs : List ℕ) (i : ℕ) → position test xs ≡ Some i → cut test xs ≡ take i xs ∷ cut test (drop (i + 1) xs)
cut-position test xs i e = let h = position-Some test xs i 0 e in cut-at test xs i h.0 h.1 h.2

-- a list without such an item is one piece
pub cut-whole : (test : ℕ → Bool) (xs : List ℕ) → position test xs ≡ None → 0 < length xs → cut test xs ≡ xs ∷ []
cut-whole test [] e h = absurd (omega arith)
cut-whole test (x ∷ xs) e h = cut-none test x xs (position-None test (x ∷ xs) e)

piece-at : (sep : ℕ) (xs : List ℕ) (i : ℕ) → i < length xs → (get_or xs i 0 == sep) ≡ true → ((k : ℕ) → k < i → (get_or xs k 0 == sep) ≡ false) → pieces sep xs ≡ take i xs ∷ pieces sep (drop (i + 1) xs)
unfolding pieces
piece-at sep [] i h p q = absurd (omega arith)
piece-at sep (x ∷ xs) zero h p q = rw p refl
piece-at sep (x ∷ xs) (suc i) h p q =
    let e : pieces sep xs ≡ take i xs ∷ pieces sep (drop (i + 1) xs) = piece-at sep xs i (omega arith) p (λ k l. q (suc k) (omega arith)) in
    let f : (x == sep) ≡ false = q 0 (omega arith) in
    rw (f, e, drop-more x xs i) refl

-- the first piece ends there
pub pieces-at : (sep : ℕ) (xs : List ℕ) (i : ℕ) → position (λ c. c == sep) xs ≡ Some i → pieces sep xs ≡ take i xs ∷ pieces sep (drop (i + 1) xs)
pieces-at sep xs i e = let h = position-Some (λ c. c == sep) xs i 0 e in piece-at sep xs i h.0 h.1 h.2

pieces-none : (sep : ℕ) (xs : List ℕ) → ((k : ℕ) → k < length xs → (get_or xs k 0 == sep) ≡ false) → pieces sep xs ≡ xs ∷ []
unfolding pieces
pieces-none sep [] q = refl
pieces-none sep (x ∷ xs) q =
    let f : (x == sep) ≡ false = q 0 (omega arith) in
    let e : pieces sep xs ≡ xs ∷ [] = pieces-none sep xs (λ k l. q (suc k) (omega arith)) in
    rw (f, e) refl

-- without such a byte the text is one piece
pub pieces-whole : (sep : ℕ) (xs : List ℕ) → position (λ c. c == sep) xs ≡ None → pieces sep xs ≡ xs ∷ []
pieces-whole sep xs e = pieces-none sep xs (position-None (λ c. c == sep) xs e)
