-- Counts of kinds, each in the place of its kind's number.
use Rattle.dm_drill.proofs.Names.{◌≡◌, ℕ, zero, suc, ◌+◌, ◌<◌, List, [], ◌∷◌, length, get_or, set, map, Bool, if◌then◌else◌, refl, ap, ◌∙◌, sym, arith, eq-eqb, ne_eqb, MessageKind, number_of, AreNumbered, KindTotal, one_more_of, with_put}

-- one more of another kind
put_other : (kind : MessageKind) (far : Bool) (t : KindTotal) → (number_of t.kind ≡ number_of kind → ⊥) → with_put kind far t ≡ t
put_other kind far t other = ap (λ (c : Bool). if c then one_more_of far t else t) (ne_eqb (number_of t.kind) (number_of kind) other)

put_same : (kind : MessageKind) (far : Bool) (t : KindTotal) → number_of t.kind ≡ number_of kind → with_put kind far t ≡ one_more_of far t
put_same kind far t same = ap (λ (c : Bool). if c then one_more_of far t else t) (eq-eqb (number_of t.kind) (number_of kind) same)

-- none of the kinds from a number on is one with a lower number
put_before : (kind : MessageKind) (far : Bool) (n : ℕ) (ts : List KindTotal) → AreNumbered n ts → number_of kind < n → map (with_put kind far) ts ≡ ts
put_before kind far n [] h lt = refl
put_before kind far n (t ∷ ts) h lt =
    let number : number_of t.kind ≡ n = h.0 in
    λ i. put_other kind far t (λ e. omega (arith, e, number, lt)) i ∷ put_before kind far (n + 1) ts h.1 (omega (arith, lt)) i

module _ {X : Type 0} (shown : X → KindTotal) where
  -- a count may change, its kind doesn't
  pub numbered_set : (n i : ℕ) (xs : List X) (x d : X) → AreNumbered n (map shown xs) → i < length xs → (shown x).kind ≡ (shown (get_or xs i d)).kind → AreNumbered n (map shown (set xs i x))
  numbered_set n i [] x d h lt e = absurd (omega (arith, lt))
  numbered_set n zero (v ∷ vs) x d h lt e = (ap (λ (k : MessageKind). number_of k) e ∙ h.0, h.1)
  numbered_set n (suc i) (v ∷ vs) x d h lt e = (h.0, numbered_set (n + 1) i vs x d h.1 (omega (arith, lt)) e)

  -- one more of a kind changes the count in its place, and no other
  pub put_there : (kind : MessageKind) (far : Bool) (n i : ℕ) (xs : List X) (x d : X) → AreNumbered n (map shown xs) → i + n ≡ number_of kind → i < length xs → shown x ≡ one_more_of far (shown (get_or xs i d))
      → map shown (set xs i x) ≡ map (with_put kind far) (map shown xs)
  put_there kind far n i [] x d h at lt e = absurd (omega (arith, lt))
  put_there kind far n zero (v ∷ vs) x d h at lt e =
      let number : number_of (shown v).kind ≡ n = h.0 in
      let same : number_of (shown v).kind ≡ number_of kind = omega (arith, number, at) in
      λ j. (e ∙ sym (put_same kind far (shown v) same)) j ∷ sym (put_before kind far (n + 1) (map shown vs) h.1 (omega (arith, at))) j
  put_there kind far n (suc i) (v ∷ vs) x d h at lt e =
      let number : number_of (shown v).kind ≡ n = h.0 in
      λ j. sym (put_other kind far (shown v) (λ same. omega (arith, same, number, at))) j ∷ put_there kind far (n + 1) i vs x d h.1 (omega (arith, at)) (omega (arith, lt)) e j
