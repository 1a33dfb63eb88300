-- Tests on each of the first machines.
use Rattle.dm_line.proofs.Names.{◌≡◌, ◌≢◌, ℕ, zero, suc, ◌<◌, Bool, true, false, ◌&&◌, refl, ap, ◌∙◌, sym, subst, inl, inr, arith, false≢true, eqb_tells, all_below}

pub both_true : (x y : Bool) → x ≡ true → y ≡ true → (x && y) ≡ true
both_true x y e f = ap (λ (b : Bool). b && y) e ∙ f

pub left_true : (x y : Bool) → (x && y) ≡ true → x ≡ true
left_true true y e = refl
left_true false y e = e

pub right_true : (x y : Bool) → (x && y) ≡ true → y ≡ true
right_true true y e = e
right_true false y e = absurd (false≢true e)

-- the last of the first machines, or one before it
pub last_or_before : (P : ℕ → Type 0) (n k : ℕ) → k < suc n → P n → (k < n → P k) → P k
last_or_before P n k h last before =
    elim (eqb_tells k n) [
      | inl e ↦ subst P (sym e.1) last
      | inr e ↦ before (let apart = e.1 in omega (arith, h, apart))
    ]

pub all_of_each : (n : ℕ) (f : ℕ → Bool) → ((k : ℕ) → k < n → f k ≡ true) → all_below n f ≡ true
all_of_each zero f h = refl
all_of_each (suc n) f h = both_true (all_below n f) (f n) (all_of_each n f (λ k l. h k (omega (arith, l)))) (h n (omega arith))

pub each_of_all : (n : ℕ) (f : ℕ → Bool) → all_below n f ≡ true → (k : ℕ) → k < n → f k ≡ true
each_of_all zero f e k h = absurd (omega (arith, h))
each_of_all (suc n) f e k h =
    last_or_before (λ (j : ℕ). f j ≡ true) n k h (right_true (all_below n f) (f n) e) (each_of_all n f (left_true (all_below n f) (f n) e) k)

pub all_same : (n : ℕ) (f g : ℕ → Bool) → ((k : ℕ) → k < n → f k ≡ g k) → all_below n f ≡ all_below n g
all_same zero f g h = refl
all_same (suc n) f g h =
    ap (λ (b : Bool). b && f n) (all_same n f g (λ k l. h k (omega (arith, l)))) ∙ ap (λ (b : Bool). all_below n g && b) (h n (omega arith))

-- where one of them fails, not all pass
pub fails_at : (n : ℕ) (f : ℕ → Bool) (k : ℕ) → k < n → f k ≡ false → all_below n f ≡ false
fails_at n f k h e = by (all_below n f) refl
  where
    by : (b : Bool) → all_below n f ≡ b → all_below n f ≡ false
    by true is = absurd (false≢true (sym e ∙ each_of_all n f is k h))
    by false is = is
