-- The table of the two digits of each number below 100.
use Rattle.std.proofs.Common.{eq-zero-or-pos, inl, inr}
use Rattle.std.proofs.lemmas.Bool.{eqb-true}
use Rattle.dm_text.proofs.Names.{◌≡◌, ℕ, zero, suc, ◌+◌, ◌-◌, ◌*◌, ◌/◌, ◌%◌, ◌<◌, ◌==◌, Bool, true, false, if◌then◌else◌, get_or, refl, arith}
use Rattle.dm_text.specs.declared.within.TheConstants.{PAIRS}

-- those of all numbers below this one are there
abbrev are_there : ℕ → Bool
are_there zero = true
are_there (suc p) =
    if get_or PAIRS (p * 2) 0 == 48 + p / 10 then (if get_or PAIRS (p * 2 + 1) 0 == 48 + p % 10 then are_there p else false) else false

all_three : (a b c : Bool) → (if a then (if b then c else false) else false) ≡ true → (a ≡ true) × (b ≡ true) × (c ≡ true)
all_three true true c h = (refl, refl, h)
all_three true false c h = absurd (cc)
all_three false b c h = absurd (cc)

there : (n p : ℕ) → are_there n ≡ true → p < n → (get_or PAIRS (p * 2) 0 ≡ 48 + p / 10) × (get_or PAIRS (p * 2 + 1) 0 ≡ 48 + p % 10)
there zero p t h = absurd (omega arith)
there (suc n) p t h =
    let a : (get_or PAIRS (n * 2) 0 == 48 + n / 10 ≡ true) × (get_or PAIRS (n * 2 + 1) 0 == 48 + n % 10 ≡ true) × (are_there n ≡ true) = all_three _ _ _ t in
    elim (eq-zero-or-pos (n - p)) [
      | inl z ↦ let e : p ≡ n = omega arith in rw e (eqb-true _ _ a.0, eqb-true _ _ a.1)
      | inr g ↦ there n p a.2 (omega arith)
    ]

-- those of any number below 100
pub pair_at : (p : ℕ) → p < 100 → (get_or PAIRS (p * 2) 0 ≡ 48 + p / 10) × (get_or PAIRS (p * 2 + 1) 0 ≡ 48 + p % 10)
pair_at p h = there 100 p refl h
