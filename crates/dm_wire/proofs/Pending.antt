-- Senders of which each packet was delivered.
use Rattle.dm_wire.proofs.Names.{IfNone, IfSome, Option, has, Machines, ◌≡◌, ℕ, zero, suc, ◌+◌, ◌*◌, ◌<◌, Bool, true, false, List, [], ◌∷◌, None, Some, arith, marked, position, slice_index_or, ap, inl, inr, if◌then◌else◌, leb_tells, Sent}
use Rattle.dm_wire.proofs.Names.{is_unseen, AreDelivered, packets_on}

-- none stands on a wire to a machine past the sixteenth
pub none_at : (pending : List Machines) (pairs : List (List Sent)) (a b : ℕ) (none : Machines) → AreDelivered pending pairs → a < 16 → has (slice_index_or pending a none) b ≡ false → position is_unseen (packets_on pairs a b) ≡ None
unfolding packets_on
none_at pending pairs a b none h lt off =
    elim (leb_tells (suc b) 16) [
      | inl e ↦ h a b none lt e.1 off
      | inr e ↦ ap (λ (t : Bool). position is_unseen (if t then slice_index_or pairs (16 * a + b) [] else [])) e.0
    ]

-- what is said where there is none, or of the one that there is
pub if_none : {A B : Type 0} (o : Option ℕ) → (A → B) → IfNone o A → IfNone o B
if_none None f h = f h
if_none (Some k) f h = tt

pub if_some : {A B : ℕ → Type 0} (o : Option ℕ) → ((k : ℕ) → A k → B k) → IfSome o A → IfSome o B
if_some None f h = tt
if_some (Some k) f h = f k h

-- a mark leaves none that wasn't delivered
none_marked : (xs : List Sent) (k : ℕ) → position is_unseen xs ≡ None → position is_unseen (marked xs k) ≡ None
none_marked [] k h = h
none_marked (x ∷ xs) zero h = grind (arith, h)
none_marked (x ∷ xs) (suc k) h = grind (arith, h, none_marked xs k)

pub none_after : (here : Bool) (xs : List Sent) (k : ℕ) → position is_unseen xs ≡ None → position is_unseen (if here then marked xs k else xs) ≡ None
none_after true xs k h = none_marked xs k h
none_after false xs k h = h
