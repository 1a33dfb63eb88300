-- What is taken is what is held.
use Rattle.dm_room.proofs.Names.{◌≡◌, ℕ, zero, suc, ◌+◌, ◌<◌, ◌≤◌, List, [], ◌∷◌, length, sum, remove, slice_get, Some, refl, arith, nat_tests, common_steps, HasTaken, IsWithin, Use, Event, happens, run, start, IsExact}

-- one element less
sum-remove : (xs : List ℕ) (i x : ℕ) → slice_get xs i ≡ Some x → sum (remove xs i) + x ≡ sum xs
sum-remove [] i x e = cc
sum-remove (y ∷ xs) zero x e = grind (arith, common_steps)
sum-remove (y ∷ xs) (suc i) x e = grind (arith, common_steps, sum-remove xs i x e)

length-remove : (xs : List ℕ) (i x : ℕ) → slice_get xs i ≡ Some x → length (remove xs i) + 1 ≡ length xs
length-remove [] i x e = cc
length-remove (y ∷ xs) zero x e = grind (arith, common_steps)
length-remove (y ∷ xs) (suc i) x e = grind (arith, common_steps, length-remove xs i x e)

-- no element is above the sum
within-sum : (xs : List ℕ) (i x : ℕ) → slice_get xs i ≡ Some x → (0 < length xs) × (x ≤ sum xs)
within-sum [] i x e = cc
within-sum (y ∷ xs) zero x e = grind (arith, common_steps)
within-sum (y ∷ xs) (suc i) x e = grind (arith, common_steps, within-sum xs i x e)

record Matches (slots blocks : ℕ) (u : Use) : Type 0 where
  same_slots : u.room.slots ≡ slots
  same_blocks : u.room.blocks ≡ blocks
  taken_slots : u.room.taken_slots ≡ length u.held
  taken_blocks : u.room.taken_blocks ≡ sum u.held
  within : IsWithin u.room

within_slots-happens : (u : Use) (e : Event) → u.room.taken_slots ≤ u.room.slots → (happens u e).room.taken_slots ≤ (happens u e).room.slots
within_slots-happens u e h = grind (arith, nat_tests)

within_blocks-happens : (u : Use) (e : Event) → u.room.taken_blocks ≤ u.room.blocks → (happens u e).room.taken_blocks ≤ (happens u e).room.blocks
within_blocks-happens u e h = grind (arith, nat_tests)

slots-happens : (u : Use) (e : Event) (n : ℕ) → u.room.slots ≡ n → (happens u e).room.slots ≡ n
slots-happens u e n is = grind (arith, nat_tests)

blocks-happens : (u : Use) (e : Event) (n : ℕ) → u.room.blocks ≡ n → (happens u e).room.blocks ≡ n
blocks-happens u e n is = grind (arith, nat_tests)

taken_slots-happens : (u : Use) (e : Event) → u.room.taken_slots ≡ length u.held → (happens u e).room.taken_slots ≡ length (happens u e).held
taken_slots-happens u e is = grind (arith, nat_tests, common_steps, length-remove)

taken_blocks-happens : (u : Use) (e : Event) → u.room.taken_blocks ≡ sum u.held → (happens u e).room.taken_blocks ≡ sum (happens u e).held
taken_blocks-happens u e is = grind (arith, nat_tests, common_steps, sum-remove)

Matches-run : (slots blocks : ℕ) (es : List Event) (u : Use) → Matches slots blocks u → Matches slots blocks (run es u)
Matches-run slots blocks [] u h = h
Matches-run slots blocks (e ∷ es) u h = Matches-run slots blocks es (happens u e) (record {
  same_slots = slots-happens u e slots h.same_slots;
  same_blocks = blocks-happens u e blocks h.same_blocks;
  taken_slots = taken_slots-happens u e h.taken_slots;
  taken_blocks = taken_blocks-happens u e h.taken_blocks;
  within = record { slots = within_slots-happens u e h.within.slots; blocks = within_blocks-happens u e h.within.blocks };
})

releasable : (slots blocks : ℕ) (u : Use) → Matches slots blocks u → (place b : ℕ) → slice_get u.held place ≡ Some b → HasTaken u.room b
releasable slots blocks u h place b is = grind (arith, h.taken_slots, h.taken_blocks, within-sum u.held place b is)

IsExact-matches : (slots blocks : ℕ) (u : Use) → Matches slots blocks u → IsExact slots blocks u
IsExact-matches slots blocks u h = record {
  same_slots = h.same_slots;
  same_blocks = h.same_blocks;
  within = h.within;
  all_slots = omega (arith, h.same_slots, h.taken_slots, h.within.slots);
  all_blocks = omega (arith, h.same_blocks, h.taken_blocks, h.within.blocks);
  taken_slots = h.taken_slots;
  taken_blocks = h.taken_blocks;
  releasable = releasable slots blocks u h;
}

pub exact : (slots blocks : ℕ) (es : List Event) → IsExact slots blocks (run es (start slots blocks))
exact slots blocks es = IsExact-matches slots blocks (run es (start slots blocks)) (Matches-run slots blocks es (start slots blocks) (record { same_slots = refl; same_blocks = refl; taken_slots = refl; taken_blocks = refl; within = record { slots = omega arith; blocks = omega arith } }))
