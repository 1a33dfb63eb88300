-- Words at the head of a text, and what stands behind them.
use Rattle.std.specs.Prelude.{◌≡◌, ◌≢◌, ◌==◌, ◌&&◌, ℕ, Bool, true, false, List, [], ◌∷◌, ◌++◌}
use Rattle.std.proofs.Common.{refl, ap, ap₂, ◌∙◌, eq-eqb}
use Rattle.std.proofs.lemmas.Bool.{and_parts, eqb-true, false≢true}
use Rattle.dm_explore.specs.Finds.{begins_with}

pub begins_after : (words rest : List ℕ) → begins_with (words ++ rest) words ≡ begins_with rest []
begins_after [] rest = refl
begins_after (w ∷ ws) rest = ap (λ t. t && begins_with (ws ++ rest) ws) (eq-eqb w w refl) ∙ begins_after ws rest

record Begins (text words : List ℕ) : Type 0 where
  rest : List ℕ
  is : text ≡ words ++ rest

begins_so : (text words : List ℕ) → begins_with text words ≡ true → Begins text words
begins_so [] words h = absurd (false≢true h)
begins_so (c ∷ cs) [] h = record { rest = c ∷ cs; is = refl }
begins_so (c ∷ cs) (w ∷ ws) h =
    let parts = and_parts (c == w) (begins_with cs ws) h in
    let same : c ≡ w = eqb-true c w parts.0 in
    let b = begins_so cs ws parts.1 in
    record { rest = b.rest; is = ap₂ (λ x xs. x ∷ xs) same b.is }

pub begins_not : (text words : List ℕ) → ((rest : List ℕ) → text ≢ words ++ rest) → false ≡ begins_with text words
begins_not text words h = by (begins_with text words) refl
  where
    by : (t : Bool) → begins_with text words ≡ t → false ≡ t
    by true is = let b = begins_so text words is in absurd (h b.rest b.is)
    by false is = refl
