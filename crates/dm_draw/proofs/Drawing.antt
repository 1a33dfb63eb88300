-- Directives, one more at a time.
use Rattle.dm_draw.proofs.Names.{◌≡◌, ℕ, suc, ◌+◌, [], ◌∷◌, ◌++◌, refl, ap, ◌∙◌, arith, Drawn, directives_by, state_behind}

module _ (draw : ℕ → Drawn) (x : ℕ) where
  pub drawn_none : directives_by draw x 0 ≡ []
  unfolding directives_by
  drawn_none = refl

  pub state_none : state_behind draw x 0 ≡ x
  unfolding state_behind
  state_none = refl

  pub drawn_next : (n : ℕ) → directives_by draw x (suc n) ≡ directives_by draw x n ++ (draw (state_behind draw x n)).directive ∷ []
  unfolding directives_by
  drawn_next n = refl

  state_next : (n : ℕ) → state_behind draw x (suc n) ≡ (draw (state_behind draw x n)).state
  unfolding state_behind
  state_next n = refl

  pub drawn_more : (n : ℕ) → directives_by draw x (n + 1) ≡ directives_by draw x n ++ (draw (state_behind draw x n)).directive ∷ []
  drawn_more n = ap (directives_by draw x) (omega arith) ∙ drawn_next n

  pub state_more : (n : ℕ) → state_behind draw x (n + 1) ≡ (draw (state_behind draw x n)).state
  state_more n = ap (state_behind draw x) (omega arith) ∙ state_next n
