-- Sums over all pairs of machines.
use Rattle.dm_law_moves.proofs.Names.{◌≡◌, ℕ, ◌+◌, ◌<◌, ◌≤◌, ◌==◌, ◌&&◌, Bool, true, false, refl, ap, ◌∙◌, inl, inr, arith, eqb_tells, sum_below, at_pair, Pair, set_is, set_other}
use Rattle.dm_law_moves.proofs.Settles.Weights.{spike, spike_here, spike_off, sum_gains, sum_le, sum_moves}

abbrev pub total : (Pair → ℕ) → ℕ → (ℕ → ℕ → Pair) → ℕ
total g n f = sum_below (λ a. sum_below (λ c. g (f a c)) n) n

pub here : (f : ℕ → ℕ → Pair) (a b : ℕ) (p : Pair) (c d : ℕ) → (a == c) ≡ true → (b == d) ≡ true → at_pair f a b p c d ≡ p
here f a b p c d e h = set_is f a b p c d (ap (λ (x : Bool). x && (b == d)) e ∙ h)

pub off_first : (f : ℕ → ℕ → Pair) (a b : ℕ) (p : Pair) (c d : ℕ) → (a == c) ≡ false → at_pair f a b p c d ≡ f c d
off_first f a b p c d e = set_other f a b p c d (ap (λ (x : Bool). x && (b == d)) e)

pub off_second : (f : ℕ → ℕ → Pair) (a b : ℕ) (p : Pair) (c d : ℕ) → (b == d) ≡ false → at_pair f a b p c d ≡ f c d
off_second f a b p c d e = set_other f a b p c d (by (a == c))
  where
    by : (x : Bool) → (x && (b == d)) ≡ false
    by true = e
    by false = refl

was : (g : Pair → ℕ) (f : ℕ → ℕ → Pair) (a b c d : ℕ) → a ≡ c → b ≡ d → g (f a b) ≡ g (f c d)
was g f a b c d e h = ap (λ (k : ℕ). g (f k b)) e ∙ ap (λ (k : ℕ). g (f c k)) h

-- one pair is set, which gains no more than this
gains_row : (g : Pair → ℕ) (n : ℕ) (f : ℕ → ℕ → Pair) (a b : ℕ) (p : Pair) (y j : ℕ) → g p ≤ g (f a b) + y → sum_below (λ c. g (at_pair f a b p j c)) n ≤ sum_below (λ c. g (f j c)) n + spike a y j
gains_row g n f a b p y j h = elim (eqb_tells a j) [
  | inl e ↦
      let s = spike_here a y j e.1 in
      let k = sum_gains (λ c. g (f j c)) (λ c. g (at_pair f a b p j c)) n b y (λ c l. elim (eqb_tells b c) [
        | inl d ↦ let x = spike_here b y c d.1 in let z = ap g (here f a b p j c e.0 d.0) in let o = was g f a b j c e.1 d.1 in omega (arith, h, x, z, o)
        | inr d ↦ let z = ap g (off_second f a b p j c d.0) in omega (arith, z)
      ]) in
      omega (arith, s, k)
  | inr e ↦ let k = sum_le (λ c. g (at_pair f a b p j c)) (λ c. g (f j c)) n (λ c l. let z = ap g (off_first f a b p j c e.0) in omega (arith, z)) in omega (arith, k)
]

pub set_gains : (g : Pair → ℕ) (n : ℕ) (f : ℕ → ℕ → Pair) (a b : ℕ) (p : Pair) (y : ℕ) → g p ≤ g (f a b) + y → total g n (at_pair f a b p) ≤ total g n f + y
set_gains g n f a b p y h = sum_gains (λ j. sum_below (λ c. g (f j c)) n) (λ j. sum_below (λ c. g (at_pair f a b p j c)) n) n a y (λ j l. gains_row g n f a b p y j h)

pub set_keeps : (g : Pair → ℕ) (n : ℕ) (f : ℕ → ℕ → Pair) (a b : ℕ) (p : Pair) → g p ≤ g (f a b) → total g n (at_pair f a b p) ≤ total g n f
set_keeps g n f a b p h = let k = set_gains g n f a b p 0 (omega (arith, h)) in omega (arith, k)

-- and one that loses at least this
loses_row : (g : Pair → ℕ) (n : ℕ) (f : ℕ → ℕ → Pair) (a b : ℕ) (p : Pair) (x j : ℕ) → b < n → g p + x ≤ g (f a b) → sum_below (λ c. g (at_pair f a b p j c)) n + spike a x j ≤ sum_below (λ c. g (f j c)) n + spike a 0 j
loses_row g n f a b p x j small h = elim (eqb_tells a j) [
  | inl e ↦
      let s = spike_here a x j e.1 in
      let k = sum_moves (λ c. g (f j c)) (λ c. g (at_pair f a b p j c)) n b x b 0 small (λ c l. elim (eqb_tells b c) [
        | inl d ↦ let y = spike_here b x c d.1 in let z = ap g (here f a b p j c e.0 d.0) in let o = was g f a b j c e.1 d.1 in omega (arith, h, y, z, o)
        | inr d ↦ let y = spike_off b x c d.1 in let z = ap g (off_second f a b p j c d.0) in omega (arith, y, z)
      ]) in
      omega (arith, s, k)
  | inr e ↦
      let s = spike_off a x j e.1 in
      let k = sum_le (λ c. g (at_pair f a b p j c)) (λ c. g (f j c)) n (λ c l. let z = ap g (off_first f a b p j c e.0) in omega (arith, z)) in omega (arith, s, k)
]

pub set_loses : (g : Pair → ℕ) (n : ℕ) (f : ℕ → ℕ → Pair) (a b : ℕ) (p : Pair) (x : ℕ) → a < n → b < n → g p + x ≤ g (f a b) → total g n (at_pair f a b p) + x ≤ total g n f
set_loses g n f a b p x first second h =
    let k = sum_moves (λ j. sum_below (λ c. g (f j c)) n) (λ j. sum_below (λ c. g (at_pair f a b p j c)) n) n a x a 0 first (λ j l. loses_row g n f a b p x j second h) in omega (arith, k)
