-- Messages that are addressed anew one by one are all addressed anew.
use Rattle.dm_migrate.proofs.Names.{◌≡◌, ℕ, zero, suc, ◌+◌, ◌<◌, List, [], ◌∷◌, length, get_or, set, map, refl, ap, arith, common_steps}

module _ {X : Type 0} (f : X → X) where
  -- the first n are
  abbrev pub first_sent : ℕ → List X → List X
  first_sent zero xs = xs
  first_sent (suc n) [] = []
  first_sent (suc n) (x ∷ xs) = f x ∷ first_sent n xs

  pub set_sent : (n : ℕ) (xs : List X) (d : X) → n < length xs → set (first_sent n xs) n (f (get_or (first_sent n xs) n d)) ≡ first_sent (n + 1) xs
  set_sent n [] d lt = absurd (omega (arith, lt))
  set_sent zero (x ∷ xs) d lt = grind (arith, common_steps)
  set_sent (suc n) (x ∷ xs) d lt = grind (arith, common_steps, set_sent n xs d (grind (arith, common_steps, lt)))

  pub all_sent : (xs : List X) → first_sent (length xs) xs ≡ map f xs
  all_sent [] = refl
  all_sent (x ∷ xs) = ap (λ ys. f x ∷ ys) (all_sent xs)
