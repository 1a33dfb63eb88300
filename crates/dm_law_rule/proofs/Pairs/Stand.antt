-- The pairs of machines stand, and what keeps them so.
use Rattle.dm_law_rule.proofs.Names.{◌≡◌, ℕ, zero, suc, ◌+◌, ◌<◌, ◌≤◌, ◌==◌, ◌&&◌, Bool, true, false, List, [], ◌∷◌, ◌++◌, ap, ◌∙◌, sym, subst, inl, inr, arith, length, ⊤, if◌then◌else◌, slice_get, slice_set, Some, cases_Bool, nat_tests, Load}
use Rattle.dm_law_rule.proofs.Names.{at_pair, Pair, SentLoad, has, HomeStands, none_some}

-- what a packet carries: data that has gone out, or a count of messages that were taken on the pair that leads back
abbrev pub LoadStands : ℕ → ℕ → Load → Type 0
LoadStands gone back (Load.Data n) = n < gone
LoadStands gone back (Load.Ack n) = n ≤ back

abbrev pub WireStands : ℕ → ℕ → List SentLoad → Type 0
WireStands gone back [] = ⊤
WireStands gone back (s ∷ ss) = LoadStands gone back s.load × WireStands gone back ss

-- a pair of different machines, and the pair that leads back
pub record Apart (p back : Pair) : Type 0 where
  pub acked : p.acked ≤ p.taken
  pub taken : p.taken ≤ p.gone
  pub gone : p.gone ≤ length p.ids
  pub full : p.gone ≤ p.acked + 8
  pub wire : WireStands p.gone back.taken p.wire

-- the numbers that came early are beyond those taken, and have gone out
abbrev pub KeptStands : Pair → Type 0
KeptStands p = (k : ℕ) → has k p.kept ≡ true → (p.taken < k) × (k < p.gone)

abbrev pub Kept : (ℕ → ℕ → Pair) → Type 0
Kept f = (a b : ℕ) → KeptStands (f a b)

pub record Stand (f : ℕ → ℕ → Pair) : Type 0 where
  pub apart : (a b : ℕ) → (a == b) ≡ false → Apart (f a b) (f b a)
  pub home : (a : ℕ) → HomeStands (f a a)

-- what was taken stays taken, and what has gone out has
pub record Later (f g : ℕ → ℕ → Pair) : Type 0 where
  pub taken : (a b : ℕ) → (f a b).taken ≤ (g a b).taken
  pub gone : (a b : ℕ) → (f a b).gone ≤ (g a b).gone

pub WireStands-more : (g b g' b' : ℕ) (ss : List SentLoad) → g ≤ g' → b ≤ b' → WireStands g b ss → WireStands g' b' ss
WireStands-more g b g' b' [] x y h = h
WireStands-more g b g' b' (s ∷ ss) x y h = (
  (elim s.load as (λ l. LoadStands g b l → LoadStands g' b' l)
      [ Load.Data n ↦ λ h_. omega (arith, h_) | Load.Ack n ↦ λ h_. omega (arith, h_) ]) h.0,
  WireStands-more g b g' b' ss x y h.1,
)

-- one more packet
pub WireStands-put : (g b : ℕ) (ss : List SentLoad) (s : SentLoad) → WireStands g b ss → LoadStands g b s.load → WireStands g b (ss ++ s ∷ [])
WireStands-put g b [] s h k = (k, h)
WireStands-put g b (t ∷ ss) s h k = (h.0, WireStands-put g b ss s h.1 k)

-- a packet of the wire
pub WireStands-at : (g b : ℕ) (ss : List SentLoad) (k : ℕ) (s : SentLoad) → slice_get ss k ≡ Some s → WireStands g b ss → LoadStands g b s.load
WireStands-at g b [] k s e h = none_some s e
WireStands-at g b (t ∷ ss) zero s e h = let f : t ≡ s = cc in subst (λ (v : SentLoad). LoadStands g b v.load) f h.0
WireStands-at g b (t ∷ ss) (suc k) s e h = WireStands-at g b ss k s e h.1

pub WireStands-set : (g b : ℕ) (ss : List SentLoad) (k : ℕ) (s : SentLoad) → LoadStands g b s.load → WireStands g b ss → WireStands g b (slice_set ss k s)
WireStands-set g b [] k s l h = h
WireStands-set g b (t ∷ ss) zero s l h = (l, h.1)
WireStands-set g b (t ∷ ss) (suc k) s l h = (h.0, WireStands-set g b ss k s l h.1)

-- a pair changes: it is the one that was set, or as it was
pub set_same : (f : ℕ → ℕ → Pair) (a b : ℕ) (p : Pair) → at_pair f a b p a b ≡ p
set_same f a b p = let e : ((a == a) && (b == b)) ≡ true = grind (arith, nat_tests) in ap (λ (c : Bool). if c then p else f a b) e

pub set_is : (f : ℕ → ℕ → Pair) (a b : ℕ) (p : Pair) (c d : ℕ) → ((a == c) && (b == d)) ≡ true → at_pair f a b p c d ≡ p
set_is f a b p c d e = ap (λ (t : Bool). if t then p else f c d) e

pub set_other : (f : ℕ → ℕ → Pair) (a b : ℕ) (p : Pair) (c d : ℕ) → ((a == c) && (b == d)) ≡ false → at_pair f a b p c d ≡ f c d
set_other f a b p c d e = ap (λ (t : Bool). if t then p else f c d) e

pub two_of : (a b c d : ℕ) → ((a == c) && (b == d)) ≡ true → (a ≡ c) × (b ≡ d)
two_of a b c d e = (grind (arith, nat_tests), grind (arith, nat_tests))

-- more were taken on the pair that leads back
Apart-back : (p q r : Pair) → q.taken ≤ r.taken → Apart p q → Apart p r
Apart-back p q r le h = record { acked = h.acked; taken = h.taken; gone = h.gone; full = h.full; wire = WireStands-more p.gone q.taken p.gone r.taken p.wire (omega arith) le h.wire }

pub Apart-at : (x y x' y' : Pair) → x' ≡ x → y' ≡ y → Apart x y → Apart x' y'
Apart-at x y x' y' e g h = subst (λ (v : Pair). Apart v y') (sym e) (subst (λ (v : Pair). Apart x v) (sym g) h)

-- the pair that is looked at is the one that changed, the one that leads back, or another
set_apart : (f : ℕ → ℕ → Pair) (a b : ℕ) (p : Pair) (c d : ℕ) → (a == b) ≡ false → (c == d) ≡ false → Apart p (f b a) → (f a b).taken ≤ p.taken → Stand f → Apart (at_pair f a b p c d) (at_pair f a b p d c)
set_apart f a b p c d ab cd new le h = elim (cases_Bool ((a == c) && (b == d))) [
  | inl same ↦
      let two = two_of a b c d same in
      let off : ((a == d) && (b == c)) ≡ false = let x = two.0 in let y = two.1 in grind (arith, nat_tests) in
      Apart-at p (f b a) (at_pair f a b p c d) (at_pair f a b p d c) (set_is f a b p c d same) (set_other f a b p d c off ∙ ap (λ (n : ℕ). f n c) (sym two.1) ∙ ap (λ (n : ℕ). f b n) (sym two.0)) new
  | inr off ↦ elim (cases_Bool ((a == d) && (b == c))) [
    | inl same ↦
        let two = two_of a b d c same in
        let le' : (f d c).taken ≤ p.taken = subst (λ (n : ℕ). (f n c).taken ≤ p.taken) two.0 (subst (λ (n : ℕ). (f a n).taken ≤ p.taken) two.1 le) in
        Apart-at (f c d) p (at_pair f a b p c d) (at_pair f a b p d c) (set_other f a b p c d off) (set_is f a b p d c same) (Apart-back (f c d) (f d c) p le' (h.apart c d cd))
    | inr other ↦ Apart-at (f c d) (f d c) (at_pair f a b p c d) (at_pair f a b p d c) (set_other f a b p c d off) (set_other f a b p d c other) (h.apart c d cd)
  ]
]

pub Stand-set : (f : ℕ → ℕ → Pair) (a b : ℕ) (p : Pair) → (a == b) ≡ false → Apart p (f b a) → (f a b).taken ≤ p.taken → Stand f → Stand (at_pair f a b p)
Stand-set f a b p ab new le h = record {
  apart = λ c d cd. set_apart f a b p c d ab cd new le h;
  home = λ c. let e : ((a == c) && (b == c)) ≡ false = grind (arith, nat_tests) in subst HomeStands (sym (set_other f a b p c c e)) (h.home c);
}

pub Kept-set : (f : ℕ → ℕ → Pair) (a b : ℕ) (p : Pair) → KeptStands p → Kept f → Kept (at_pair f a b p)
Kept-set f a b p new h c d = grind (arith, nat_tests, set_is, set_other)

pub Later-set : (f : ℕ → ℕ → Pair) (a b : ℕ) (p : Pair) → (f a b).taken ≤ p.taken → (f a b).gone ≤ p.gone → Later f (at_pair f a b p)
Later-set f a b p t g = search (arith, two_of, set_is, set_other)
