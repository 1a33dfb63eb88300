-- So many words, and no more: by the first of them.
use Rattle.std.specs.Prelude.{◌≡◌, ◌==◌, ℕ, Bool, true, false, if◌then◌else◌, List, [], ◌∷◌, option_map}
use Rattle.std.proofs.Common.{refl}
use Rattle.std.specs.declared.option.Option.TheVariants.{None}
use Rattle.dm_reading.specs.Cuts.{onto_first, pieces}
use Rattle.dm_labels.specs.Labels.{just_one, just_three, just_two}

-- a text has a piece at least
one_besides : (w : List ℕ) (b : ℕ) (c : Bool) (ps : List (List ℕ)) → just_one (w ∷ (if c then [] ∷ ps else onto_first b ps)) ≡ None
one_besides w b true ps = refl
one_besides w b false [] = refl
one_besides w b false (p ∷ ps) = refl

pub not_alone : (w t : List ℕ) → just_one (w ∷ pieces 32 t) ≡ None
unfolding pieces
not_alone w [] = refl
not_alone w (b ∷ bs) = one_besides w b (b == 32) (pieces 32 bs)

pub two_after : (w : List ℕ) (ws : List (List ℕ)) → just_two (w ∷ ws) ≡ option_map (λ (vs : List (List ℕ)). w ∷ vs) (just_one ws)
two_after w [] = refl
two_after w (x ∷ []) = refl
two_after w (x ∷ y ∷ ws) = refl

pub three_after : (w : List ℕ) (ws : List (List ℕ)) → just_three (w ∷ ws) ≡ option_map (λ (vs : List (List ℕ)). w ∷ vs) (just_two ws)
three_after w [] = refl
three_after w (x ∷ []) = refl
three_after w (x ∷ y ∷ []) = refl
three_after w (x ∷ y ∷ z ∷ ws) = refl
