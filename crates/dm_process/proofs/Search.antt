-- Looking for the first message on a mask.
use Rattle.dm_process.proofs.Names.{◌≡◌, ℕ, zero, suc, ◌<◌, ◌≤◌, true, false, List, [], ◌∷◌, length, take, Some, None, slice_get, remove, min, refl, ap, arith, length-remove, Message, first_on, is_on, without_first_on, HasPassed}

-- none before it is on the mask, and it is
pub found : (mask : ℕ) (queue : List Message) (i : ℕ) (m : Message) → slice_get queue i ≡ Some m → first_on mask (take i queue) ≡ None → is_on mask m ≡ true
    → (first_on mask queue ≡ Some m) × (remove queue i ≡ without_first_on mask queue)
found mask [] i m at none on = grind arith
found mask (x ∷ xs) zero m at none on = grind arith
found mask (x ∷ xs) (suc i) m at none on = grind (arith, found mask xs i m)

-- neither is it
pub not_found : (mask : ℕ) (queue : List Message) (i : ℕ) (m : Message) → slice_get queue i ≡ Some m → first_on mask (take i queue) ≡ None → is_on mask m ≡ false
    → first_on mask (take (suc i) queue) ≡ None
not_found mask [] i m at none off = grind arith
not_found mask (x ∷ xs) zero m at none off = grind arith
not_found mask (x ∷ xs) (suc i) m at none off = grind (arith, not_found mask xs i m)

-- none of fewer is either
pub fewer : (mask : ℕ) (queue : List Message) (k n : ℕ) → k ≤ n → first_on mask (take n queue) ≡ None → first_on mask (take k queue) ≡ None
fewer mask [] zero n le none = grind arith
fewer mask [] (suc k) n le none = grind arith
fewer mask (x ∷ xs) zero n le none = grind arith
fewer mask (x ∷ xs) (suc k) zero le none = grind arith
fewer mask (x ∷ xs) (suc k) (suc n) le none = grind (arith, fewer mask xs k n)

-- those before one that is taken stay
before : (queue : List Message) (k i : ℕ) → k ≤ i → take k (remove queue i) ≡ take k queue
before [] zero i le = refl
before [] (suc k) zero le = refl
before [] (suc k) (suc i) le = refl
before (x ∷ xs) zero i le = refl
before (x ∷ xs) (suc k) zero le = absurd (omega arith)
before (x ∷ xs) (suc k) (suc i) le = ap (λ ms. x ∷ ms) (before xs k i (omega arith))

pub taken : (mask : ℕ) (queue : List Message) (n i : ℕ) → i < length queue → HasPassed mask n queue → HasPassed mask (min n i) (remove queue i)
taken mask queue n i lt h =
    record {
      within = omega (arith, length-remove queue i);
      none = rw (before queue (min n i) i (omega arith)) (fewer mask queue (min n i) n (omega arith) h.none);
    }
