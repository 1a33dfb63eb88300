-- What a receiver keeps, place by place.
use Rattle.dm_stream.proofs.Names.{◌≡◌, ◌≢◌, ℕ, zero, suc, ◌<◌, List, [], ◌∷◌, ◌++◌, length, slice_set, Option, None, refl, arith, place, moved_up, once, kept_once}

place-pushed : {X : Type 0} (xs : List (Option X)) (i : ℕ) → place (xs ++ None ∷ []) i ≡ place xs i
place-pushed [] zero = refl
place-pushed [] (suc i) = refl
place-pushed (x ∷ xs) zero = refl
place-pushed (x ∷ xs) (suc i) = place-pushed xs i

-- each message moves up by one place
pub place-moved_up : {X : Type 0} (xs : List (Option X)) (i : ℕ) → place (moved_up xs) i ≡ place xs (suc i)
place-moved_up [] zero = refl
place-moved_up [] (suc i) = refl
place-moved_up (x ∷ xs) i = place-pushed xs i

place-set_same : {X : Type 0} (xs : List (Option X)) (i : ℕ) (y : Option X) → i < length xs → place (slice_set xs i y) i ≡ y
place-set_same [] i y h = absurd (omega arith)
place-set_same (x ∷ xs) zero y h = refl
place-set_same (x ∷ xs) (suc i) y h = place-set_same xs i y (omega arith)

place-set_other : {X : Type 0} (xs : List (Option X)) (i j : ℕ) (y : Option X) → j ≢ i → place (slice_set xs i y) j ≡ place xs j
place-set_other [] i j y h = refl
place-set_other (x ∷ xs) zero zero y h = absurd (h refl)
place-set_other (x ∷ xs) zero (suc j) y h = refl
place-set_other (x ∷ xs) (suc i) zero y h = refl
place-set_other (x ∷ xs) (suc i) (suc j) y h = place-set_other xs i j y (λ e. h (omega arith))

-- the place has what it had, or the message
pub place-kept_same : {X : Type 0} (xs : List (Option X)) (i j : ℕ) (m : X) → j ≡ i → i < length xs → place (kept_once xs i m) j ≡ once (place xs j) m
place-kept_same xs i j m e h = rw e (place-set_same xs i (once (place xs i) m) h)

-- the other places have what they had
pub place-kept_other : {X : Type 0} (xs : List (Option X)) (i j : ℕ) (m : X) → j ≢ i → place (kept_once xs i m) j ≡ place xs j
place-kept_other xs i j m h = place-set_other xs i j (once (place xs i) m) h
