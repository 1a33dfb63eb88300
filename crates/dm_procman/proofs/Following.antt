-- Values that are told one by one are all told.
use Rattle.dm_procman.proofs.Names.{◌≡◌, ◌≤◌, ◌<◌, ℕ, zero, suc, ◌+◌, Bool, if◌then◌else◌, List, [], ◌∷◌, length, get_or, set, map, count_by, refl, ap, arith, common_steps}

module _ {X : Type 0} (f : X → X) where
  -- the first n are told
  abbrev pub followed : ℕ → List X → List X
  followed zero xs = xs
  followed (suc n) [] = []
  followed (suc n) (x ∷ xs) = f x ∷ followed n xs

  pub set_followed : (n : ℕ) (xs : List X) (d : X) → n < length xs → set (followed n xs) n (f (get_or (followed n xs) n d)) ≡ followed (n + 1) xs
  set_followed n [] d lt = absurd (omega (arith, lt))
  set_followed zero (x ∷ xs) d lt = grind (arith, common_steps)
  set_followed (suc n) (x ∷ xs) d lt = grind (arith, common_steps, set_followed n xs d (grind (arith, common_steps, lt)))

  pub later_followed : (n : ℕ) (xs : List X) (d : X) → get_or (followed n xs) n d ≡ get_or xs n d
  later_followed zero xs d = refl
  later_followed (suc n) [] d = refl
  later_followed (suc n) (x ∷ xs) d = later_followed n xs d

  pub all_followed : (xs : List X) → followed (length xs) xs ≡ map f xs
  all_followed [] = refl
  all_followed (x ∷ xs) = ap (λ ys. f x ∷ ys) (all_followed xs)

module _ {X : Type 0} (p : X → Bool) where
  -- how many of the first n pass
  abbrev pub counted : ℕ → List X → ℕ
  counted zero xs = 0
  counted (suc n) [] = 0
  counted (suc n) (x ∷ xs) = (if p x then 1 else 0) + counted n xs

  counted_suc : (n : ℕ) (xs : List X) (d : X) → n < length xs → counted (suc n) xs ≡ counted n xs + (if p (get_or xs n d) then 1 else 0)
  counted_suc n [] d lt = absurd (omega (arith, lt))
  counted_suc zero (x ∷ xs) d lt = grind (arith, common_steps)
  counted_suc (suc n) (x ∷ xs) d lt = grind (arith, common_steps, counted_suc n xs d (grind (arith, common_steps, lt)))

  pub counted_next : (n : ℕ) (xs : List X) (d : X) → n < length xs → counted (n + 1) xs ≡ counted n xs + (if p (get_or xs n d) then 1 else 0)
  counted_next n xs d lt = grind (arith, counted_suc n xs d lt)

  pub counted_within : (n : ℕ) (xs : List X) → counted n xs ≤ n
  counted_within zero xs = omega arith
  counted_within (suc n) [] = omega arith
  counted_within (suc n) (x ∷ xs) = grind (arith, counted_within n xs)

  pub all_counted : (xs : List X) → counted (length xs) xs ≡ count_by p xs
  all_counted [] = refl
  all_counted (x ∷ xs) = grind (arith, common_steps, all_counted xs)
