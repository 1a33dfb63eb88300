-- A table is read as it is spelled.
use Rattle.dm_statebytes.proofs.Names.{◌≡◌, ℕ, zero, suc, ◌+◌, ◌*◌, ◌/◌, ◌%◌, ◌^◌, ◌<◌, Bool, true, false, eqb, List, [], ◌∷◌, ◌++◌, length, Option, Ok, refl, sym, ap, subst, ◌∙◌, append_assoc, arith, inl, inr, ◌⊎◌, ◌==◌}
use Rattle.dm_statebytes.proofs.Names.{nat_lt, AllByRecursion, flat_map, IfSome, mod-eq_of_lt, pow-succ', ltb-true, lt-ltb, flat_map-cons, mod-pow-add, mod_below, Link, ◌>>=◌, both, number, bit_of, link, IsBytes, IsField, IsField-both}
use Rattle.dm_statebytes.proofs.Names.{IsField-for, IsField-made, IsField-number, IsField-tested, Took, bind_ok, took_same, then_parts, IsSpelledLink, link_is, IsHeld, held_if, held_is, is_some, mask, mask_of, read_slots, slots, spell_slot, table}
use Rattle.dm_packet.specs.declared.PacketError.TheVariants as bad

abbrev pub SlotIsSpelled : Option Link → Type 0
SlotIsSpelled o = IfSome o IsSpelledLink

slot_is : (holds : Bool) → IsField (held_if link holds) (IsHeld IsSpelledLink holds)
slot_is = held_is link IsSpelledLink link_is

same_bit : (a b : Bool) → bit_of a ≡ bit_of b → a ≡ b
same_bit true true e = refl
same_bit true false e = absurd (omega (arith, e))
same_bit false true e = absurd (omega (arith, e))
same_bit false false e = refl

-- the lowest bit, and the others
bit_low : (r : ℕ) → r < 2 → bit_of (eqb r 1) ≡ r
bit_low zero lt = refl
bit_low (suc zero) lt = refl
bit_low (suc (suc r)) lt = absurd (omega arith)

low_bit : (m : ℕ) → bit_of (m % 2 == 1) ≡ m % 2
low_bit m = bit_low (m % 2) (mod_below m 2 (omega arith))

halved : (m n : ℕ) → m % 2 ^ suc n ≡ m % 2 + 2 * (m / 2 % 2 ^ n)
halved m n =
    let apart : m % 2 ^ (n + 1) ≡ (m / 2 ^ 1 % 2 ^ n) * 2 ^ 1 + m % 2 ^ 1 = mod-pow-add m n 1 in
    let one : n + 1 ≡ suc n = omega arith in
    ap (λ k. m % 2 ^ k) (sym one) ∙ apart ∙ omega arith

abbrev AreSlots : ℕ → ℕ → List (Option Link) → Type 0
AreSlots n m xs = (length xs ≡ n) × ((mask_of xs ≡ m % 2 ^ n) × AllByRecursion SlotIsSpelled xs)

slots_takes : (n m : ℕ) (bytes : List ℕ) (xs : List (Option Link)) (rest : List ℕ) → IsBytes bytes → read_slots n m bytes ≡ Ok (xs, rest) → Took (slots n m) (AreSlots n m) bytes xs rest
slots_takes zero m bytes xs rest h e =
    took_same (slots 0 m) (AreSlots 0 m) bytes ([], bytes) (xs, rest) e (record { parts = refl; rest_fits = h; fits = (refl, (omega arith, tt)) })
slots_takes (suc n) m bytes xs rest h e =
    let a = bind_ok ((held_if link (m % 2 == 1)).read bytes) (λ first. read_slots n (m / 2) first.1 >>= λ others. Ok (first.0 ∷ others.0, others.1)) (xs, rest) e in
    let b = bind_ok (read_slots n (m / 2) a.0.1) (λ others. Ok (a.0.0 ∷ others.0, others.1)) (xs, rest) a.2 in
    let t = (slot_is (m % 2 == 1)).takes bytes a.0.0 a.0.1 h a.1 in
    let u = slots_takes n (m / 2) a.0.1 b.0.0 b.0.1 t.rest_fits b.1 in
    let parts : bytes ≡ flat_map spell_slot (a.0.0 ∷ b.0.0) ++ b.0.1 =
    then_parts bytes (spell_slot a.0.0) a.0.1 (flat_map spell_slot b.0.0) b.0.1 t.parts u.parts
    ∙ ap (λ (front : List ℕ). front ++ b.0.1) (sym (flat_map-cons spell_slot a.0.0 b.0.0)) in
    let whole : bit_of (is_some a.0.0) + 2 * mask_of b.0.0 ≡ m % 2 ^ suc n = omega (arith, ap bit_of t.fits.0, low_bit m, u.fits.1.0, halved m n) in
    took_same (slots (suc n) m) (AreSlots (suc n) m) bytes (a.0.0 ∷ b.0.0, b.0.1) (xs, rest) b.2
    (record { parts = parts; rest_fits = u.rest_fits; fits = (ap suc u.fits.0, (whole, (t.fits.1, u.fits.1.1))) })

bit_small : (b : Bool) → bit_of b < 2
bit_small true = omega arith
bit_small false = omega arith

slots_again : (xs : List (Option Link)) (n m : ℕ) (rest : List ℕ) → AreSlots n m xs → read_slots n m (flat_map spell_slot xs ++ rest) ≡ Ok (xs, rest)
slots_again [] zero m rest fits = refl
slots_again [] (suc n) m rest fits = absurd (omega (arith, fits.0))
slots_again (x ∷ xs) zero m rest fits = absurd (omega (arith, fits.0))
slots_again (x ∷ xs) (suc n) m rest fits =
    let few : bit_of (is_some x) < 2 = bit_small (is_some x) in
    let first : bit_of (is_some x) ≡ bit_of (m % 2 == 1) = omega (arith, few, low_bit m, fits.1.0, halved m n) in
    let others : mask_of xs ≡ m / 2 % 2 ^ n = omega (arith, few, low_bit m, fits.1.0, halved m n) in
    let regrouped : flat_map spell_slot (x ∷ xs) ++ rest ≡ spell_slot x ++ (flat_map spell_slot xs ++ rest) =
    ap (λ (front : List ℕ). front ++ rest) (flat_map-cons spell_slot x xs) ∙ append_assoc (spell_slot x) (flat_map spell_slot xs) rest in
    ap (read_slots (suc n) m) regrouped
    ∙ rw ((slot_is (m % 2 == 1)).again x (flat_map spell_slot xs ++ rest) (same_bit (is_some x) (m % 2 == 1) first, fits.1.1.0), slots_again xs n (m / 2) rest (omega (arith, fits.0), (others, fits.1.1.1))) refl

slots_is : (n m : ℕ) → IsField (slots n m) (AreSlots n m)
slots_is n m = record { takes = slots_takes n m; again = λ xs rest fits. slots_again xs n m rest fits }

-- a mask has no bit above its slots
pub mask_of-lt : (xs : List (Option Link)) → mask_of xs < 2 ^ length xs
mask_of-lt [] = omega arith
mask_of-lt (x ∷ xs) = let whole : 2 ^ suc (length xs) ≡ 2 * 2 ^ length xs = pow-succ' 2 (length xs) in omega (arith, bit_small (is_some x), mask_of-lt xs, whole)

fits_mask : (cap m : ℕ) → (cap ≡ 32) ⊎ (cap ≡ 128) → m < 2 ^ cap → m < 256 ^ 16
fits_mask cap m (inl small) lt = let below : m < 2 ^ 32 = subst (λ k. m < 2 ^ k) small lt in omega (arith, below)
fits_mask cap m (inr large) lt = subst (λ k. m < 2 ^ k) large lt

mask_is : (cap : ℕ) → (cap ≡ 32) ⊎ (cap ≡ 128) → IsField (mask cap) (λ m. m < 2 ^ cap)
mask_is cap known =
    IsField-for (mask cap) (λ m. (m < 256 ^ 16) × (nat_lt m (2 ^ cap) ≡ true)) (λ m. m < 2 ^ cap)
    (IsField-tested (number 16) (λ m. m < 256 ^ 16) (IsField-number 16) (λ m. nat_lt m (2 ^ cap)) bad.Limit)
    (λ m fits. ltb-true m (2 ^ cap) fits.1)
    (λ m fits. (fits_mask cap m known fits, lt-ltb m (2 ^ cap) fits))

-- the slots of a table
abbrev pub IsSpelledTable : ℕ → List (Option Link) → Type 0
IsSpelledTable cap xs = (length xs ≡ cap) × AllByRecursion SlotIsSpelled xs

pub table_is : (cap : ℕ) → (cap ≡ 32) ⊎ (cap ≡ 128) → IsField (table cap) (IsSpelledTable cap)
table_is cap known =
    IsField-made (both (mask cap) (slots cap)) (λ t. (t.0 < 2 ^ cap) × AreSlots cap t.0 t.1) (IsField-both (mask cap) (λ m. m < 2 ^ cap) (mask_is cap known) (slots cap) (AreSlots cap) (slots_is cap))
    (λ t. t.1) (λ xs. (mask_of xs, xs)) (IsSpelledTable cap)
    (λ t fits. ((λ i. ((fits.1.1.0 ∙ mod-eq_of_lt fits.0) i, t.1)), (fits.1.0, fits.1.1.1)))
    (λ xs fits.
    let small : mask_of xs < 2 ^ cap = rw (sym fits.0) (mask_of-lt xs) in
    ((small, (fits.0, (sym (mod-eq_of_lt small), fits.1))), refl))
