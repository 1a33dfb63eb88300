-- From each place of a trail the forwards lead to the process, in fewer steps than there are machines.
use Rattle.dm_law_rule.proofs.Names.{◌≡◌, ◌≢◌, ℕ, zero, suc, ◌+◌, ◌≤◌, ◌<◌, ◌==◌, ◌||◌, Bool, true, false, List, [], ◌∷◌, refl, ap, ◌∙◌, sym, inl, inr, arith, slice_get, Some, cases_eq, or_cases, or_left, or_right, false≢true, Pid, Place, View}
use Rattle.dm_law_rule.proofs.Names.{not, nat_lt, Known, Unknown, Here, Frozen, Incoming, Forward, Trails, Trail, IsOn, leads_on, leads, both_true, false_from_ne_true, lt-ltb, none_some}
use Rattle.std.proofs.Common.{eqb-true, eq-eqb}
pub use Rattle.std.proofs.lemmas.Bool.{lt-ltb as less_test}

-- how many of the first n machines pass a test
one : Bool → ℕ
one true = 1
one false = 0

passing : (ℕ → Bool) → ℕ → ℕ
passing f zero = 0
passing f (suc n) = one (f n) + passing f n

one_most : (b : Bool) → one b ≤ 1
unfolding one
one_most true = omega arith
one_most false = omega arith

passing_most : (f : ℕ → Bool) (n : ℕ) → passing f n ≤ n
unfolding passing
passing_most f zero = omega arith
passing_most f (suc n) = let a = passing_most f n in let b = one_most (f n) in omega (arith, a, b)

one_grows : (b c : Bool) → (b ≡ true → c ≡ true) → one b ≤ one c
unfolding one
one_grows b c h1 = search arith

passing_grows : (f g : ℕ → Bool) (n : ℕ) → ((k : ℕ) → f k ≡ true → g k ≡ true) → passing f n ≤ passing g n
unfolding passing
passing_grows f g zero h = omega arith
passing_grows f g (suc n) h = let a = passing_grows f g n h in let b = one_grows (f n) (g n) (h n) in omega (arith, a, b)

-- one machine more passes
passing_more : (f g : ℕ → Bool) (n x : ℕ) → x < n → ((k : ℕ) → f k ≡ true → g k ≡ true) → f x ≡ false → g x ≡ true → passing f n < passing g n
unfolding passing one
passing_more f g zero x less h off on = absurd (omega (arith, less))
passing_more f g (suc n) x less h off on = elim (cases_eq x n) [
  | inl last ↦
      let c = passing_grows f g n h in omega (arith, ap (λ (k : ℕ). one (f k)) (sym last) ∙ ap one off, ap (λ (k : ℕ). one (g k)) (sym last) ∙ ap one on, c)
  | inr other ↦
      let before : x < n = omega (arith, less, other) in
      let b = one_grows (f n) (g n) (h n) in omega (arith, passing_more f g n x before h off on, b)
]

passing_some : (f : ℕ → Bool) (n x : ℕ) → x < n → f x ≡ true → 0 < passing f n
passing_some f n x less on = let a = passing_more (λ k. false) f n x less (λ k e. absurd (false≢true e)) refl on in omega (arith, a)

-- a machine stands on a trail, at this place or behind it
ahead : List ℕ → ℕ → ℕ → Bool
ahead [] c m = false
ahead (x ∷ xs) zero m = (x == m) || ahead xs zero m
ahead (x ∷ xs) (suc c) m = ahead xs c m

is_ahead : (xs : List ℕ) (c j m : ℕ) → c ≤ j → slice_get xs j ≡ Some m → ahead xs c m ≡ true
unfolding ahead
is_ahead [] c j m le e = none_some m e
is_ahead (x ∷ xs) zero zero m le e = let is : x ≡ m = cc in or_left (x == m) (ahead xs zero m) (eq-eqb x m is)
is_ahead (x ∷ xs) zero (suc j) m le e = or_right (x == m) (ahead xs zero m) (is_ahead xs zero j m (omega arith) e)
is_ahead (x ∷ xs) (suc c) zero m le e = absurd (omega (arith, le))
is_ahead (x ∷ xs) (suc c) (suc j) m le e = is_ahead xs c j m (omega (arith, le)) e

where_ahead : (xs : List ℕ) (c m : ℕ) → ahead xs c m ≡ true → (j : ℕ) × (c ≤ j) × (slice_get xs j ≡ Some m)
unfolding ahead
where_ahead [] c m e = absurd (false≢true e)
where_ahead (x ∷ xs) zero m e = elim (or_cases (x == m) (ahead xs zero m) e) [
  | inl here ↦ (0, omega arith, ap Some (eqb-true x m here))
  | inr more ↦ let (j, le, at) = where_ahead xs zero m more in (suc j, omega arith, at)
]
where_ahead (x ∷ xs) (suc c) m e = let (j, le, at) = where_ahead xs c m e in (suc j, omega (arith, le), at)

-- how many machines stand at a place or behind it
left_at : List ℕ → ℕ → ℕ → ℕ
left_at xs machines c = passing (ahead xs c) machines

-- a forward leads to a place behind which fewer machines stand: the forwarding machine stands there no more
fewer : {lives : Bool} (v : View) (t : Trails) (p : Pid) (machines c m k j : ℕ) → Trail lives v t p → m < machines → slice_get (t p) c ≡ Some m → v.known m p ≡ Forward k j → left_at (t p) machines j < left_at (t p) machines c
unfolding left_at
fewer v t p machines c m k j h within at e =
    passing_more (ahead (t p) j) (ahead (t p) c) machines m within
    (λ i s. let (a, le, f) = where_ahead (t p) j i s in is_ahead (t p) c a i (omega (arith, h.behind m k j c e at, le)) f)
    (false_from_ne_true (ahead (t p) j m) (λ s. let (a, le, f) = where_ahead (t p) j m s in let before = h.behind m k j a e f in absurd (omega (arith, le, before))))
    (is_ahead (t p) c c m (omega arith) at)

-- a step
goes_on : (over : Bool) (x : Known) (c : ℕ) (next : ℕ → ℕ → Bool) → (x ≡ Unknown → over ≡ true) → ((k j : ℕ) → x ≡ Forward k j → (c < j) × (next j k ≡ true)) → leads_on over x c next ≡ true
goes_on over Unknown c next none on = none refl
goes_on over Here c next none on = refl
goes_on over (Frozen to) c next none on = refl
goes_on over (Incoming from) c next none on = refl
goes_on over (Forward at moves) c next none on = let (less, more) = on at moves refl in both_true (nat_lt c moves) (next moves at) (lt-ltb c moves less) more

left_some : (xs : List ℕ) (machines j k : ℕ) → k < machines → slice_get xs j ≡ Some k → 0 < left_at xs machines j
unfolding left_at
left_some xs machines j k less at = passing_some (ahead xs j) machines k less (is_ahead xs j j k (omega arith) at)

walk : (lives : Bool) (v : View) (t : Trails) (p : Pid) (machines n c m : ℕ) → Trail lives v t p → ((c m : ℕ) → slice_get (t p) c ≡ Some m → v.known m p ≡ Unknown → not lives ≡ true) → ((c m : ℕ) → slice_get (t p) c ≡ Some m → m < machines)
    → slice_get (t p) c ≡ Some m → left_at (t p) machines c ≤ suc n → leads (not lives) v p n c m ≡ true
walk lives v t p machines zero c m h there most at le =
    goes_on (not lives) (v.known m p) c (λ d k. false) (there c m at)
    (λ k j e.
    let next = h.named m k j e in
    let some = left_some (t p) machines j k (most j k next) next in absurd (omega (arith, le, fewer v t p machines c m k j h (most c m at) at e, some)))
walk lives v t p machines (suc n) c m h there most at le =
    goes_on (not lives) (v.known m p) c (leads (not lives) v p n) (there c m at)
    (λ k j e.
    let next = h.named m k j e in (h.behind m k j c e at, walk lives v t p machines n j k h there most next (omega (arith, le, fewer v t p machines c m k j h (most c m at) at e))))

left_most : (xs : List ℕ) (machines c : ℕ) → left_at xs machines c ≤ machines
unfolding left_at
left_most xs machines c = passing_most (ahead xs c) machines

-- in fewer steps than there are machines; where it has ended, to a machine that knows nothing of it
pub trail_leads : (lives : Bool) (v : View) (t : Trails) (p : Pid) (n i : ℕ) (place : Place) → Trail lives v t p → (lives ≡ true → v.known i p ≢ Unknown) → ((c m : ℕ) → slice_get (t p) c ≡ Some m → m < suc n) → IsOn t p place
    → leads (not lives) v p n place.moves place.at ≡ true
trail_leads lives v t p n i place h there most on = walk lives v t p (suc n) n place.moves place.at h (λ c m at none. off lives (λ e. h.kept e m i c (there e) at none)) most on (left_most (t p) (suc n) place.moves)
  where
    off : (b : Bool) → (b ≡ true → ⊥) → not b ≡ true
    off true e = absurd (e refl)
    off false e = refl
