-- A set of machines has one machine more, or less; and how many there are among the first.
use Rattle.std.specs.Prelude.{◌&&◌, ◌-◌, ◌/◌, not}
use Rattle.std.proofs.Common.{bit_and, inl, inr}
use Rattle.std.specs.Int.{bit_not, trailing_zeros}
use Rattle.std.proofs.lemmas.Bool.Decides.{leb_tells}
use Rattle.std.proofs.lemmas.Nat.{shr-shr, shr_le}
use Rattle.std.proofs.lemmas.Nat.Bits.{bit_at_above, bit_at_clear_same, bit_at_clear_other, bit_at-trailing_zeros, bit_at-zero}
use Rattle.dm_records.specs.Machines.{IsFirstFrom}
use Rattle.dm_records.specs.declared.machines.Machines.{Machines}
use Rattle.dm_records.proofs.Names.{has, sym, ◌∙◌, ◌≤◌, ◌≡◌, ℕ, zero, suc, ◌+◌, ◌*◌, ◌%◌, ◌^◌, ◌<◌, ◌==◌, ◌||◌, Bool, true, false, List, [], ◌∷◌, cond, arith, common_steps, ap, length, filter, range_with_len, bit_at, bit_or, w16, bit_at_set_same, bit_at_set_other}

bit_set : (m s t : ℕ) → s < 16 → bit_at (bit_or m (1 * 2 ^ s % 2 ^ 16)) t ≡ cond (t == s) 1 (bit_at m t)
bit_set m s t lt = grind (arith, common_steps, bit_at_set_same w16 m s lt, bit_at_set_other w16 m s lt t)

pub has_more : (m s t : ℕ) → s < 16 → (bit_at (bit_or m (1 * 2 ^ s % 2 ^ 16)) t == 1) ≡ (s == t) || (bit_at m t == 1)
has_more m s t lt = grind (arith, common_steps, bit_set m s t lt)

bit_clear : (m s t : ℕ) → s < 16 → t < 16 → bit_at (bit_and m (bit_not w16 (1 * 2 ^ s % 2 ^ 16))) t ≡ cond (t == s) 0 (bit_at m t)
bit_clear m s t lt within = grind (arith, common_steps, bit_at_clear_same w16 m s lt, bit_at_clear_other w16 m s lt t within)

pub has_fewer : (m s t : ℕ) → s < 16 → t < 16 → (bit_at (bit_and m (bit_not w16 (1 * 2 ^ s % 2 ^ 16))) t == 1) ≡ not (s == t) && (bit_at m t == 1)
has_fewer m s t lt within = grind (arith, common_steps, bit_clear m s t lt within)

long : (b : Bool) (x : ℕ) (xs : List ℕ) → length (cond b (x ∷ xs) xs) ≡ cond b 1 0 + length xs
long true x xs = omega arith
long false x xs = omega arith

-- one machine more is looked at
pub counted : (f : ℕ → Bool) (a n : ℕ) → length (filter f (range_with_len a (suc n))) ≡ length (filter f (range_with_len a n)) + cond (f (a + n)) 1 0
counted f a zero = let last : a + 0 ≡ a = omega arith in omega (arith, long (f a) a [], ap {B = ℕ} (λ k. cond (f k) 1 0) last)
counted f a (suc n) =
    let last : a + 1 + n ≡ a + suc n = omega arith in
    omega (arith, long (f a) a (filter f (range_with_len (a + 1) (suc n))), long (f a) a (filter f (range_with_len (a + 1) n)), counted f (a + 1) n, ap {B = ℕ} (λ k. cond (f k) 1 0) last)

-- the bits from m on
ahead : (bits m n : ℕ) → m ≤ n → bit_at bits n ≡ bit_at (bits / 2 ^ m) (n - m)
ahead bits m n le =
    let whole : m + (n - m) ≡ n = omega (arith, le) in
    sym (ap (λ (k : ℕ). k % 2) (shr-shr bits m (n - m)) ∙ ap (bit_at bits) whole)

pub none_above : (s : Machines) (m : ℕ) → s.bits < 2 ^ 16 → 16 ≤ m → (n : ℕ) → m ≤ n → has s n ≡ false
unfolding has
none_above s m fits le n from = ap (λ (b : ℕ). b == 1) (bit_at_above s.bits 16 n fits (omega (arith, le, from)))

pub none_ahead : (s : Machines) (m : ℕ) → s.bits / 2 ^ m ≡ 0 → (n : ℕ) → m ≤ n → has s n ≡ false
unfolding has
none_ahead s m none n le =
    ap (λ (b : ℕ). b == 1) (ahead s.bits m n le ∙ ap (λ (k : ℕ). bit_at k (n - m)) none ∙ bit_at-zero (n - m))

pub first_ahead : (s : Machines) (m : ℕ) → s.bits < 2 ^ 16 → 0 < s.bits / 2 ^ m → IsFirstFrom s m (m + trailing_zeros w16 (s.bits / 2 ^ m))
unfolding has
first_ahead s m fits some =
    let low : s.bits / 2 ^ m ≤ s.bits = shr_le s.bits m in
    let lowest = bit_at-trailing_zeros w16 (s.bits / 2 ^ m) some (omega (arith, low, fits)) in
    let k = m + trailing_zeros w16 (s.bits / 2 ^ m) in
    let over : k - m ≡ trailing_zeros w16 (s.bits / 2 ^ m) = omega arith in
    let le : m ≤ k = omega arith in
    let there : bit_at s.bits k ≡ 1 = ahead s.bits m k le ∙ ap (bit_at (s.bits / 2 ^ m)) over ∙ lowest.1 in
    record {
      from = le;
      within = elim (leb_tells 16 k) [
        | inl e ↦ absurd (let none = bit_at_above s.bits 16 k fits e.1 in omega (arith, none, there))
        | inr e ↦ let f = e.1 in omega (arith, f)
      ];
      there = ap (λ (b : ℕ). b == 1) there;
      before = λ n from below.
          let near : n - m < trailing_zeros w16 (s.bits / 2 ^ m) = omega (arith, from, below) in
          ap (λ (b : ℕ). b == 1) (ahead s.bits m n from ∙ lowest.2 (n - m) near);
    }
