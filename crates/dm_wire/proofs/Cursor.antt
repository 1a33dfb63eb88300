-- The cursor stands at the first packet that wasn't delivered.
use Rattle.dm_wire.proofs.Names.{◌≡◌, ℕ, zero, suc, ◌<◌, ◌≤◌, true, false, List, [], ◌∷◌, length, position, Some, None, refl, arith, position_or_len, nat_tests, Sent, is_unseen, seen_at, marked, IsCursor}

first-unseen : (xs : List Sent) (k : ℕ) → k ≤ length xs → ((j : ℕ) → j < k → seen_at xs j ≡ true) → seen_at xs k ≡ false → position_or_len is_unseen xs ≡ k
first-unseen [] k within below here = omega arith
first-unseen (x ∷ xs) zero within below here = grind arith
first-unseen (x ∷ xs) (suc k) within below here = grind (arith, below zero, first-unseen xs k (omega arith) (λ j lt. below (suc j) (omega arith)) here)

-- the least number that isn't marked
pub unseen_here : (xs : List Sent) (k : ℕ) → IsCursor xs k → k < length xs → position is_unseen xs ≡ Some k
unseen_here xs k h lt = rw (first-unseen xs k h.within h.below h.here) (grind (arith, nat_tests))

-- all are marked
pub none_unseen : (xs : List Sent) (k : ℕ) → IsCursor xs k → length xs ≤ k → position is_unseen xs ≡ None
none_unseen xs k h le = rw (first-unseen xs k h.within h.below h.here) (grind (arith, nat_tests))

-- what was delivered stays so
pub seen_at_marked : (xs : List Sent) (k j : ℕ) → seen_at xs j ≡ true → seen_at (marked xs k) j ≡ true
seen_at_marked [] k j h = h
seen_at_marked (x ∷ xs) zero zero h = refl
seen_at_marked (x ∷ xs) zero (suc j) h = h
seen_at_marked (x ∷ xs) (suc k) zero h = h
seen_at_marked (x ∷ xs) (suc k) (suc j) h = seen_at_marked xs k j h

-- a mark leaves the number of packets
pub length_marked : (xs : List Sent) (k : ℕ) → length (marked xs k) ≡ length xs
length_marked [] k = refl
length_marked (x ∷ xs) zero = refl
length_marked (x ∷ xs) (suc k) = grind (arith, length_marked xs k)
