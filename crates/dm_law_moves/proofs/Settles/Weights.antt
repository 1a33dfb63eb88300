-- Weights of lists of messages, and sums over machines.
use Rattle.dm_law_moves.proofs.Names.{◌≡◌, ◌≢◌, ℕ, zero, suc, ◌+◌, ◌*◌, ◌<◌, ◌≤◌, ◌==◌, Bool, true, false, List, [], ◌∷◌, ◌++◌, length, refl, ap, subst, inl, inr, arith, suc-mul, if◌then◌else◌, eqb_tells, leb_tells, MsgId, id_eq}
use Rattle.dm_law_moves.proofs.Names.{id_eq-same, sum_below, without_front, times, one_each, weight, more_front, drop}
pub use Rattle.dm_law_rule.proofs.Phases.Leaves.{first_of as first_times}
pub use Rattle.dm_law_always.proofs.Sizes.Servers.{sum_both}

pub weight-append : (f : MsgId → ℕ) (xs ys : List MsgId) → weight f (xs ++ ys) ≡ weight f xs + weight f ys
weight-append f [] ys = omega arith
weight-append f (x ∷ xs) ys = let h = weight-append f xs ys in omega (arith, h)

pub weight-one : (xs : List MsgId) → weight one_each xs ≡ length xs
weight-one [] = refl
weight-one (x ∷ xs) = let h = weight-one xs in omega (arith, h)

pub weight_same : (f g : MsgId → ℕ) (xs : List MsgId) → ((i : MsgId) → 1 ≤ times i xs → f i ≡ g i) → weight f xs ≡ weight g xs
weight_same f g [] h = refl
weight_same f g (x ∷ xs) h = let e = h x (first_times x xs) in let k = weight_same f g xs (λ i l. h i (more_front i x xs l)) in omega (arith, e, k)

pub weight_none : (f : MsgId → ℕ) (xs : List MsgId) → ((i : MsgId) → 1 ≤ times i xs → f i ≡ 0) → weight f xs ≡ 0
weight_none f [] h = refl
weight_none f (x ∷ xs) h = let e = h x (first_times x xs) in let k = weight_none f xs (λ i l. h i (more_front i x xs l)) in omega (arith, e, k)

pub weight_most : (f : MsgId → ℕ) (xs : List MsgId) → ((i : MsgId) → f i ≤ 1) → weight f xs ≤ length xs
weight_most f [] h = omega arith
weight_most f (x ∷ xs) h = let e = h x in let k = weight_most f xs h in omega (arith, e, k)

-- the front taken out
pub front_weight : (f : MsgId → ℕ) (i : MsgId) (xs : List MsgId) → weight f (without_front i xs) ≤ weight f xs
front_weight f i [] = omega arith
front_weight f i (j ∷ js) = by (id_eq i j)
  where
    by : (c : Bool) → weight f (if c then js else j ∷ js) ≤ weight f (j ∷ js)
    by true = omega arith
    by false = omega arith

pub front_taken : (f : MsgId → ℕ) (i : MsgId) (is : List MsgId) → weight f (without_front i (i ∷ is)) + f i ≤ weight f (i ∷ is)
front_taken f i is = let e : weight f (without_front i (i ∷ is)) ≡ weight f is = ap (λ (c : Bool). weight f (if c then is else i ∷ is)) (id_eq-same i) in omega (arith, e)

pub first_weight : (f : MsgId → ℕ) (xs : List MsgId) → weight f (drop 1 xs) ≤ weight f xs
first_weight f [] = omega arith
first_weight f (x ∷ xs) = omega arith

-- a number at one place, and 0 elsewhere
abbrev pub spike : ℕ → ℕ → ℕ → ℕ
spike k x m = if k == m then x else 0

pub spike_here : (k x m : ℕ) → k ≡ m → spike k x m ≡ x
spike_here k x m e = elim (eqb_tells k m) [ inl t ↦ ap (λ (c : Bool). if c then x else 0) t.0 | inr t ↦ absurd (t.1 e) ]

pub spike_off : (k x m : ℕ) → k ≢ m → spike k x m ≡ 0
spike_off k x m e = elim (eqb_tells k m) [ inl t ↦ absurd (e t.1) | inr t ↦ ap (λ (c : Bool). if c then x else 0) t.0 ]

pub sum_le : (f g : ℕ → ℕ) (n : ℕ) → ((k : ℕ) → k < n → f k ≤ g k) → sum_below f n ≤ sum_below g n
sum_le f g zero h = omega arith
sum_le f g (suc n) h = let i = sum_le f g n (λ k l. h k (omega (arith, l))) in let j = h n (omega arith) in omega (arith, i, j)

pub sum_same : (f g : ℕ → ℕ) (n : ℕ) → ((k : ℕ) → k < n → f k ≡ g k) → sum_below f n ≡ sum_below g n
sum_same f g zero h = refl
sum_same f g (suc n) h = let i = sum_same f g n (λ k l. h k (omega (arith, l))) in let j = h n (omega arith) in omega (arith, i, j)

pub sum_most : (f : ℕ → ℕ) (n x : ℕ) → ((k : ℕ) → k < n → f k ≤ x) → sum_below f n ≤ n * x
sum_most f zero x h = omega arith
sum_most f (suc n) x h = let i = sum_most f n x (λ k l. h k (omega (arith, l))) in let j = h n (omega arith) in let e : suc n * x ≡ n * x + x = suc-mul n x in omega (arith, i, j, e)

pub sum_spike : (k x n : ℕ) → k < n → sum_below (spike k x) n ≡ x
sum_spike k x zero h = absurd (omega (arith, h))
sum_spike k x (suc n) h = elim (leb_tells (suc k) n) [
  | inl e ↦ let i = sum_spike k x n e.1 in let less = e.1 in let j : spike k x n ≡ 0 = spike_off k x n (λ same. absurd (omega (arith, same, less))) in omega (arith, i, j)
  | inr e ↦
      let far = e.1 in
      let last : k ≡ n = omega (arith, h, far) in
      let i : sum_below (spike k x) n ≡ 0 = none_before k x n (omega (arith, last)) in
      let j : spike k x n ≡ x = spike_here k x n last in
      omega (arith, i, j)
]
  where
    none_before : (k x n : ℕ) → n ≤ k → sum_below (spike k x) n ≡ 0
    none_before k x zero h = refl
    none_before k x (suc n) h = let i = none_before k x n (omega (arith, h)) in let j : spike k x n ≡ 0 = spike_off k x n (λ same. absurd (omega (arith, same, h))) in omega (arith, i, j)

pub sum_spike_most : (k x n : ℕ) → sum_below (spike k x) n ≤ x
sum_spike_most k x n = elim (leb_tells (suc k) n) [
  | inl e ↦ let i = sum_spike k x n e.1 in omega (arith, i)
  | inr e ↦ let far = e.1 in let i = none_in k x n (omega (arith, far)) in omega (arith, i)
]
  where
    none_in : (k x n : ℕ) → n ≤ k → sum_below (spike k x) n ≡ 0
    none_in k x zero h = refl
    none_in k x (suc n) h = let i = none_in k x n (omega (arith, h)) in let j : spike k x n ≡ 0 = spike_off k x n (λ same. absurd (omega (arith, same, h))) in omega (arith, i, j)

-- one place loses so much, another gains so much
pub sum_moves : (f g : ℕ → ℕ) (n k x m y : ℕ) → k < n → ((j : ℕ) → j < n → g j + spike k x j ≤ f j + spike m y j) → sum_below g n + x ≤ sum_below f n + y
sum_moves f g n k x m y small h =
    let a = sum_le (λ j. g j + spike k x j) (λ j. f j + spike m y j) n h in
    let b = sum_both g (spike k x) n in
    let c = sum_both f (spike m y) n in
    let d = sum_spike k x n small in
    let e = sum_spike_most m y n in
    omega (arith, a, b, c, d, e)

pub sum_gains : (f g : ℕ → ℕ) (n m y : ℕ) → ((j : ℕ) → j < n → g j ≤ f j + spike m y j) → sum_below g n ≤ sum_below f n + y
sum_gains f g n m y h =
    let a = sum_le g (λ j. f j + spike m y j) n h in
    let c = sum_both f (spike m y) n in
    let e = sum_spike_most m y n in
    omega (arith, a, c, e)

pub sum_falls : (f g : ℕ → ℕ) (n k : ℕ) → k < n → ((j : ℕ) → j < n → g j ≤ f j) → g k < f k → sum_below g n < sum_below f n
sum_falls f g n k small h less =
    let a = sum_moves f g n k 1 0 0 small (λ j l. elim (eqb_tells k j) [
      | inl e ↦ let x = spike_here k 1 j e.1 in let y : spike 0 0 j ≤ 0 = low j in let z : g j < f j = subst (λ (i : ℕ). g i < f i) e.1 less in omega (arith, x, z)
      | inr e ↦ let x = spike_off k 1 j e.1 in let z = h j l in omega (arith, x, z)
    ]) in
    omega (arith, a)
  where
    low : (j : ℕ) → spike 0 0 j ≤ 0
    low j = elim (eqb_tells 0 j) [ inl e ↦ let x = spike_here 0 0 j e.1 in omega (arith, x) | inr e ↦ let x = spike_off 0 0 j e.1 in omega (arith, x) ]
