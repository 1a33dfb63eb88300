-- The pairs of machines, passed one after the other.
use Rattle.dm_world.proofs.Names.{◌≡◌, ◌≢◌, ℕ, zero, suc, ◌+◌, ◌<◌, ◌≤◌, Bool, true, false, List, [], ◌∷◌, ◌++◌, length, drop, refl, sym, ap, ◌∙◌, inl, inr, arith, length-append, if◌then◌else◌, cond, not, position, position_from, Option}
use Rattle.dm_world.proofs.Names.{None, Some, eqb_tells, leb_tells, position_from-zero, drop-append-le, drop_all, drop_at, Sent, is_unseen, Two, below, here_or_later, next_delivery, pairs_of, pairs_with, pairs_at, row_at, first_unseen}
use Rattle.dm_world.proofs.Names.{world_undelivered, WorldState}
use Rattle.dm_schedule.specs.declared.Step.TheVariants as step

-- the machines, ascending
pub length-below : (n : ℕ) → length (below n) ≡ n
length-below zero = refl
length-below (suc n) = length-append (below n) (n ∷ []) ∙ ap (λ k. k + 1) (length-below n) ∙ (let e : n + 1 ≡ suc n = omega arith in e)

pub past_below : (n b : ℕ) → n ≤ b → drop b (below n) ≡ []
past_below n b h = let size = length-below n in drop_all b (below n) (omega (arith, size, h))

pub drop-below : (n b : ℕ) → b < n → drop b (below n) ≡ b ∷ drop (b + 1) (below n)
drop-below zero b h = absurd (omega arith)
drop-below (suc n) b h =
    let size = length-below n in
    elim (leb_tells (suc b) n) [
      | inl e ↦
          let small : b < n = e.1 in
          drop-append-le b (below n) (n ∷ []) (omega (arith, size, small))
          ∙ ap (λ xs. xs ++ n ∷ []) (drop-below n b small)
          ∙ ap (λ xs. b ∷ xs) (sym (drop-append-le (b + 1) (below n) (n ∷ []) (omega (arith, size, small))))
      | inr e ↦
          let large = e.1 in
          let last : b ≡ n = omega (arith, large) in
          let whole : length (below (suc n)) ≡ suc n = length-below (suc n) in
          drop_at (below n) (n ∷ []) b (size ∙ sym last)
          ∙ ap (λ k. k ∷ []) (sym last)
          ∙ ap (λ xs. b ∷ xs) (sym (drop_all (b + 1) (below (suc n)) (omega (arith, whole, last))))
    ]

-- the pairs from a pair on
abbrev pub rows_from : ℕ → ℕ → List Two
rows_from n a = pairs_of (drop a (below n)) (below n)

pub pairs_row : (n a c : ℕ) → a < n → pairs_at n a c ≡ row_at n a c (rows_from n (a + 1))
unfolding pairs_at
pairs_row n a c h =
    elim (leb_tells (suc a) n) [
      | inl e ↦ ap (λ (t : Bool). if t then row_at n a c (rows_from n (a + 1)) else []) e.0
      | inr e ↦ absurd (let f = e.1 in omega (arith, f, h))
    ]

pub pairs_past : (n a c : ℕ) → n ≤ a → pairs_at n a c ≡ []
unfolding pairs_at
pairs_past n a c h =
    elim (leb_tells (suc a) n) [
      | inl e ↦ absurd (let f = e.1 in omega (arith, f, h))
      | inr e ↦ ap (λ (t : Bool). if t then row_at n a c (rows_from n (a + 1)) else []) e.0
    ]

pub rows_are_pairs : (n a : ℕ) → rows_from n a ≡ pairs_at n a 0
rows_are_pairs n a =
    elim (leb_tells (suc a) n) [
      | inl e ↦ ap (λ xs. pairs_of xs (below n)) (drop-below n a e.1) ∙ sym (pairs_row n a 0 e.1)
      | inr e ↦ let past : n ≤ a = (let f = e.1 in omega (arith, f)) in ap (λ xs. pairs_of xs (below n)) (past_below n a past) ∙ sym (pairs_past n a 0 past)
    ]

-- one pair of a row
pub row_same : (n a b : ℕ) (rest : List Two) → b < n → a ≡ b → row_at n a b rest ≡ row_at n a (b + 1) rest
row_same n a b rest h e =
    ap (λ xs. pairs_with a xs ++ rest) (drop-below n b h)
    ∙ elim (eqb_tells a b) [
      | inl t ↦ ap (λ (c : Bool). (if c then pairs_with a (drop (b + 1) (below n)) else record { from = a; to = b } ∷ pairs_with a (drop (b + 1) (below n))) ++ rest) t.0
      | inr t ↦ absurd (t.1 e)
    ]

pub row_pair : (n a b : ℕ) (rest : List Two) → b < n → a ≢ b → row_at n a b rest ≡ record { from = a; to = b } ∷ row_at n a (b + 1) rest
row_pair n a b rest h e =
    ap (λ xs. pairs_with a xs ++ rest) (drop-below n b h)
    ∙ elim (eqb_tells a b) [
      | inl t ↦ absurd (e t.1)
      | inr t ↦ ap (λ (c : Bool). (if c then pairs_with a (drop (b + 1) (below n)) else record { from = a; to = b } ∷ pairs_with a (drop (b + 1) (below n))) ++ rest) t.0
    ]

-- the first that was never delivered
unseen_or : (k : ℕ) (seen : Bool) (x y : Option ℕ) → x ≡ y → (if seen then x else Some k) ≡ cond (not seen) (Some k) y
unseen_or k true x y e = e
unseen_or k false x y e = refl

unseen_from : (k : ℕ) (ps : List Sent) → first_unseen k ps ≡ position_from is_unseen k ps
unseen_from k [] = refl
unseen_from k (p ∷ ps) = unseen_or k p.seen (first_unseen (k + 1) ps) (position_from is_unseen (k + 1) ps) (unseen_from (k + 1) ps)

pub first_unseen_is : (ps : List Sent) → first_unseen 0 ps ≡ position is_unseen ps
first_unseen_is ps = unseen_from 0 ps ∙ sym (position_from-zero is_unseen ps)

-- a pair of a row has no such packet, or is the first that has one
pub row_none : (n : ℕ) (w : WorldState) (a b : ℕ) (rest : List Two) → b < n → a ≢ b → world_undelivered w a b ≡ None
    → next_delivery (world_undelivered w) (row_at n a b rest) ≡ next_delivery (world_undelivered w) (row_at n a (b + 1) rest)
row_none n w a b rest h apart none =
    ap (next_delivery (world_undelivered w)) (row_pair n a b rest h apart)
    ∙ ap (λ o. here_or_later (record { from = a; to = b }) (row_at n a (b + 1) rest) o (next_delivery (world_undelivered w) (row_at n a (b + 1) rest))) none

pub row_some : (n : ℕ) (w : WorldState) (a b k : ℕ) (rest : List Two) → b < n → a ≢ b → world_undelivered w a b ≡ Some k
    → next_delivery (world_undelivered w) (row_at n a b rest) ≡ Some (step.Deliver a b k, row_at n a b rest)
row_some n w a b k rest h apart some =
    ap (next_delivery (world_undelivered w)) (row_pair n a b rest h apart)
    ∙ ap (λ o. here_or_later (record { from = a; to = b }) (row_at n a (b + 1) rest) o (next_delivery (world_undelivered w) (row_at n a (b + 1) rest))) some
    ∙ ap (λ ps. Some (step.Deliver a b k, ps)) (sym (row_pair n a b rest h apart))

pub row_over : (n a b : ℕ) (rest : List Two) → n ≤ b → row_at n a b rest ≡ rest
row_over n a b rest h = ap (λ xs. pairs_with a xs ++ rest) (past_below n b h)

-- pairs that have no such packet are passed over
row_step : (n : ℕ) (w : WorldState) (a b : ℕ) (rest : List Two) → world_undelivered w a b ≡ None
    → next_delivery (world_undelivered w) (row_at n a b rest) ≡ next_delivery (world_undelivered w) (row_at n a (b + 1) rest)
row_step n w a b rest none =
    elim (leb_tells (suc b) n) [
      | inl t ↦
          elim (eqb_tells a b) [
            | inl e ↦ ap (next_delivery (world_undelivered w)) (row_same n a b rest t.1 e.1)
            | inr e ↦ row_none n w a b rest t.1 e.1 none
          ]
      | inr t ↦
          let past : n ≤ b = (let f = t.1 in omega (arith, f)) in
          ap (next_delivery (world_undelivered w)) (row_over n a b rest past ∙ sym (row_over n a (b + 1) rest (omega (arith, past))))
    ]

pub row_skip : (n : ℕ) (w : WorldState) (a c k : ℕ) (rest : List Two) → ((b : ℕ) → c ≤ b → b < c + k → world_undelivered w a b ≡ None)
    → next_delivery (world_undelivered w) (row_at n a c rest) ≡ next_delivery (world_undelivered w) (row_at n a (c + k) rest)
row_skip n w a c zero rest h = ap (λ (b : ℕ). next_delivery (world_undelivered w) (row_at n a b rest)) (let e : c ≡ c + 0 = omega arith in e)
row_skip n w a c (suc k) rest h =
    row_skip n w a c k rest (λ b from below. h b from (omega (arith, below)))
    ∙ row_step n w a (c + k) rest (h (c + k) (omega arith) (omega arith))
    ∙ ap (λ (b : ℕ). next_delivery (world_undelivered w) (row_at n a b rest)) (let e : c + k + 1 ≡ c + suc k = omega arith in e)

-- and so are rows
rows_step : (n : ℕ) (w : WorldState) (a : ℕ) → (a < n → (b : ℕ) → world_undelivered w a b ≡ None)
    → next_delivery (world_undelivered w) (pairs_at n a 0) ≡ next_delivery (world_undelivered w) (pairs_at n (a + 1) 0)
rows_step n w a none =
    elim (leb_tells (suc a) n) [
      | inl t ↦
          ap (next_delivery (world_undelivered w)) (pairs_row n a 0 t.1)
          ∙ row_skip n w a 0 n (rows_from n (a + 1)) (λ b from below. none t.1 b)
          ∙ ap (next_delivery (world_undelivered w)) (row_over n a (0 + n) (rows_from n (a + 1)) (omega arith) ∙ rows_are_pairs n (a + 1))
      | inr t ↦
          let past : n ≤ a = (let f = t.1 in omega (arith, f)) in
          ap (next_delivery (world_undelivered w)) (pairs_past n a 0 past ∙ sym (pairs_past n (a + 1) 0 (omega (arith, past))))
    ]

pub rows_skip : (n : ℕ) (w : WorldState) (a k : ℕ) → ((x b : ℕ) → a ≤ x → x < a + k → x < n → world_undelivered w x b ≡ None)
    → next_delivery (world_undelivered w) (pairs_at n a 0) ≡ next_delivery (world_undelivered w) (pairs_at n (a + k) 0)
rows_skip n w a zero h = ap (λ (x : ℕ). next_delivery (world_undelivered w) (pairs_at n x 0)) (let e : a ≡ a + 0 = omega arith in e)
rows_skip n w a (suc k) h =
    rows_skip n w a k (λ x b from below. h x b from (omega (arith, below)))
    ∙ rows_step n w (a + k) (λ small b. h (a + k) b (omega arith) (omega arith) small)
    ∙ ap (λ (x : ℕ). next_delivery (world_undelivered w) (pairs_at n x 0)) (let e : a + k + 1 ≡ a + suc k = omega arith in e)
