-- How often a name stands in lists that are joined.
use Rattle.std.proofs.Common.{◌≡◌, ◌≢◌, ℕ, zero, suc, ◌<◌, ◌≤◌, List, refl, sym, subst, inl, inr, arith}
use Rattle.dm_line.specs.Each.{joined_below}
use Rattle.dm_message.specs.declared.MsgId.{MsgId}
use Rattle.dm_law_rule.specs.Spots.{times}
use Rattle.dm_law_rule.proofs.Standing.{times-append}
use Rattle.dm_line.proofs.Names.{eqb_tells}
pub use Rattle.dm_law_moves.proofs.Ends.Sources.{both_first as some_left}
pub use Rattle.dm_law_moves.proofs.Ends.Sources.{both_second as some_right}

pub none_in : (i : MsgId) (f : ℕ → List MsgId) (n : ℕ) → ((k : ℕ) → k < n → times i (f k) ≡ 0) → times i (joined_below f n) ≡ 0
none_in i f zero none = refl
none_in i f (suc n) none =
    let both = times-append i (joined_below f n) (f n) in
    let before = none_in i f n (λ k h. none k (omega (arith, h))) in
    let last = none n (omega arith) in
    omega (arith, both, before, last)

-- at most once, where it stands in one of them alone
pub once_in : (i : MsgId) (f : ℕ → List MsgId) (n place : ℕ) → ((k : ℕ) → k ≢ place → times i (f k) ≡ 0) → times i (f place) ≤ 1 → times i (joined_below f n) ≤ 1
once_in i f zero place others one = omega arith
once_in i f (suc n) place others one = elim (eqb_tells n place) [
  | inl e ↦
      let same = e.1 in
      let both = times-append i (joined_below f n) (f n) in
      let none = none_in i f n (λ k h. others k (λ is. absurd (omega (arith, is, same, h)))) in
      let here : times i (f n) ≤ 1 = subst (λ (k : ℕ). times i (f k) ≤ 1) (sym same) one in
      omega (arith, both, none, here)
  | inr e ↦
      let both = times-append i (joined_below f n) (f n) in
      let before = once_in i f n place others one in
      let none = others n e.1 in
      omega (arith, both, before, none)
]

pub some_in : (i : MsgId) (f : ℕ → List MsgId) (n k : ℕ) → k < n → 1 ≤ times i (f k) → 1 ≤ times i (joined_below f n)
some_in i f zero k below least = absurd (omega (arith, below))
some_in i f (suc n) k below least = elim (eqb_tells k n) [
  | inl e ↦
      let both = times-append i (joined_below f n) (f n) in
      let here : 1 ≤ times i (f n) = subst (λ (j : ℕ). 1 ≤ times i (f j)) e.1 least in
      omega (arith, both, here)
  | inr e ↦
      let apart = e.1 in
      let both = times-append i (joined_below f n) (f n) in
      let before = some_in i f n k (omega (arith, below, apart)) least in
      omega (arith, both, before)
]
