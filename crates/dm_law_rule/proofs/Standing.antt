-- Messages that come, move and go stand once.
use Rattle.dm_law_rule.proofs.Names.{◌≡◌, ◌≢◌, ℕ, ◌+◌, ◌≤◌, Bool, true, false, ◌==◌, ◌&&◌, List, [], ◌∷◌, ◌++◌, ap, ◌∙◌, sym, arith, subst, cases_Bool, false≢true, ◌⊎◌, inl, inr, Option, None, Some, pid_eq, MsgId, Spot, Queue, Held, Inbox}
use Rattle.dm_law_rule.proofs.Names.{Untaken, times, StandsOnce, StandsNowhere, StandsAsBag, pid_eq-is, pid_eq-same, left_true, right_true, both_true, eqb-true}

pub same_spot : Spot → Spot → Bool
same_spot (Queue m p) (Queue n q) = (m == n) && pid_eq p q
same_spot (Held m p) (Held n q) = (m == n) && pid_eq p q
same_spot (Inbox m) (Inbox n) = m == n
same_spot (Untaken a b) (Untaken c d) = (a == c) && (b == d)
same_spot x y = false

same_spot-is : (x y : Spot) → same_spot x y ≡ true → x ≡ y
unfolding same_spot
same_spot-is x y h1 = search (arith, eqb-true, left_true, pid_eq-is, right_true)

same_spot-same : (x : Spot) → same_spot x x ≡ true
unfolding same_spot
same_spot-same x = search (arith, both_true, pid_eq-same)

pub spot_cases : (x y : Spot) → (x ≡ y) ⊎ (x ≢ y)
spot_cases x y = elim (cases_Bool (same_spot x y)) [
  | inl same ↦ inl (same_spot-is x y same)
  | inr apart ↦ inr (λ e. false≢true (sym apart ∙ subst (λ (z : Spot). same_spot x z ≡ true) e (same_spot-same x)))
]

-- what stands once stands where it is seen, and nowhere else
pub once_at : (f : Spot → ℕ) (x : Spot) → StandsOnce f → 1 ≤ f x → (f x ≡ 1) × ((y : Spot) → y ≢ x → f y ≡ 0)
once_at f x (spot, one, others) least = elim (spot_cases x spot) [
  | inl e ↦ (ap f e ∙ one, λ y apart. others y (λ h. apart (h ∙ sym e)))
  | inr apart ↦ absurd (let h : f x ≡ 0 = others x apart in omega arith)
]

-- a message that stood nowhere comes to a spot
pub comes : (f g : Spot → ℕ) (y : Spot) → g y ≡ f y + 1 → ((z : Spot) → z ≢ y → g z ≡ f z) → StandsNowhere f → StandsOnce g
comes f g y e same off = (y, (let h : f y ≡ 0 = off y in omega arith), λ z apart. same z apart ∙ off z)

-- one that stands at a spot goes
pub goes : (f g : Spot → ℕ) (x : Spot) → f x ≡ g x + 1 → ((z : Spot) → z ≢ x → g z ≡ f z) → StandsOnce f → StandsNowhere g
goes f g x e same once z =
    let h = once_at f x once (omega arith) in
    elim (spot_cases z x) [ inl is ↦ ap g is ∙ (let k : f x ≡ 1 = h.0 in omega arith) | inr apart ↦ same z apart ∙ h.1 z apart ]

-- or moves to another
pub moves : (f g : Spot → ℕ) (x y : Spot) → x ≢ y → f x ≡ g x + 1 → g y ≡ f y + 1 → ((z : Spot) → z ≢ x → z ≢ y → g z ≡ f z) → StandsOnce f → StandsOnce g
moves f g x y ne e d same once =
    let h = once_at f x once (omega arith) in (
      y,
      (let k : f y ≡ 0 = h.1 y (λ i. ne (sym i)) in omega arith),
      λ z apart. elim (spot_cases z x) [ inl is ↦ ap g is ∙ (let k : f x ≡ 1 = h.0 in omega arith) | inr other ↦ same z other apart ∙ h.1 z other ],
    )

pub StandsAsBag-same : {M : Type 0} (m : Option M) (f g : Spot → ℕ) → ((x : Spot) → g x ≡ f x) → StandsAsBag m f → StandsAsBag m g
StandsAsBag-same None f g e h = λ x. e x ∙ h x
StandsAsBag-same (Some m) f g e h = (h.0, e h.0 ∙ h.1, λ y apart. e y ∙ h.2 y apart)

pub StandsAsBag-once : {M : Type 0} (m : Option M) (f : Spot → ℕ) (x : Spot) → 1 ≤ f x → StandsAsBag m f → StandsOnce f
StandsAsBag-once m f x h1 h2 = search arith

pub once_as : {M : Type 0} (m : Option M) (f g : Spot → ℕ) (x : Spot) → 1 ≤ f x → StandsAsBag m f → (StandsOnce f → StandsOnce g) → StandsAsBag m g
once_as None f g x least h go = absurd (let k : f x ≡ 0 = h x in omega arith)
once_as (Some m) f g x least h go = go h

-- what stands at one spot stands at no other
pub StandsAsBag-elsewhere : {M : Type 0} (m : Option M) (f : Spot → ℕ) (x y : Spot) → 1 ≤ f x → y ≢ x → StandsAsBag m f → f y ≡ 0
StandsAsBag-elsewhere m f x y least apart h = (once_at f x (StandsAsBag-once m f x least h) least).1 y apart

pub StandsAsBag-one : {M : Type 0} (m : Option M) (f : Spot → ℕ) (x : Spot) → 1 ≤ f x → StandsAsBag m f → f x ≡ 1
StandsAsBag-one m f x least h = (once_at f x (StandsAsBag-once m f x least h) least).0

-- counts
pub times-append : (i : MsgId) (xs ys : List MsgId) → times i (xs ++ ys) ≡ times i xs + times i ys
times-append i [] ys = grind arith
times-append i (x ∷ xs) ys = grind (arith, times-append i xs ys)
