-- A delivery routes nothing.
use Rattle.dm_law_moves.proofs.Names.{◌≡◌, ℕ, ◌==◌, ◌&&◌, List, [], ◌∷◌, refl, ap, ◌∙◌, sym, inl, inr, arith, slice_get, Some, cases_Bool, nat_tests, Boot, Step, Line, at_pair, Part, Says, Routes, Again, Owns, Transmits, Spelled, spelled}
use Rattle.dm_law_moves.proofs.Names.{Point, moved, arrives, group_of, Pair, marked, arrives_net, group_is, set_is, set_other}
use Rattle.dm_law_moves.proofs.Settles.Rests.RestsComes.{early, net_pairs, pairs_line, pairs_parts, took}
use Rattle.dm_law_moves.proofs.Settles.Rests.RestsPairs.{acknowledged, repeated}

pub set_ids : (f : ℕ → ℕ → Pair) (a b : ℕ) (p : Pair) (c d : ℕ) → p.ids ≡ (f a b).ids → (at_pair f a b p c d).ids ≡ (f c d).ids
set_ids f a b p c d ids = elim (cases_Bool ((a == c) && (b == d))) [
  | inl same ↦
      let one : a ≡ c = grind (arith, nat_tests) in
      let two : b ≡ d = grind (arith, nat_tests) in
      ap (λ (q : Pair). q.ids) (set_is f a b p c d same) ∙ ids ∙ ap (λ (k : ℕ). (f k b).ids) one ∙ ap (λ (k : ℕ). (f c k).ids) two
  | inr apart ↦ ap (λ (q : Pair). q.ids) (set_other f a b p c d apart)
]

line_ids : (l : Line) (f : ℕ → ℕ → Pair) (c d : ℕ) → (pairs_line f l c d).ids ≡ (f c d).ids
line_ids (Line.Taken a b k) f c d = set_ids f a b (took k (f a b)) c d refl
line_ids (Line.Early a b k) f c d = set_ids f a b (early k (f a b)) c d refl
line_ids (Line.Acked a b k) f c d = set_ids f b a (acknowledged k (f b a)) c d refl
line_ids l f c d = refl

pub parts_ids : (ps : List Part) (f : ℕ → ℕ → Pair) (c d : ℕ) → (pairs_parts f ps c d).ids ≡ (f c d).ids
parts_ids [] f c d = refl
parts_ids (Says l ∷ ps) f c d = parts_ids ps (pairs_line f l) c d ∙ line_ids l f c d
parts_ids (Transmits a b l ∷ ps) f c d = parts_ids ps (at_pair f a b (repeated l (f a b))) c d ∙ set_ids f a b (repeated l (f a b)) c d refl
parts_ids (Routes i ∷ ps) f c d = parts_ids ps f c d
parts_ids (Again i b ∷ ps) f c d = parts_ids ps f c d
parts_ids (Owns k q b ∷ ps) f c d = parts_ids ps f c d

-- whatever packet it is
pub deliver_ids : (b : Boot) (pt : Point) (a c k : ℕ) (w : Spelled) → group_of b pt (Step.Deliver a c k) ≡ Some w → (x y : ℕ) → (w.point.view.pair x y).ids ≡ (pt.view.pair x y).ids
deliver_ids b pt a c k w e x y =
    let v = pt.view in
    let g = group_is b pt (Step.Deliver a c k) w e in
    let start = moved pt (Line.Head (Step.Deliver a c k)) pt.kernel in
    let o = slice_get (v.pair a c).wire k in
    let parts = arrives a c (v.pair a c) (v.pair c a) o in
    let are : parts ≡ g.parts = let t = g.is in cc in
    let said : spelled start parts ≡ Some g.rest = ap (spelled start) are ∙ g.said in
    ap (λ (q : Point). (q.view.pair x y).ids) (sym g.point)
    ∙ ap (λ (f : ℕ → ℕ → Pair). (f x y).ids) (net_pairs parts start g.rest (arrives_net a c (v.pair a c) (v.pair c a) o) said)
    ∙ parts_ids parts start.view.pair x y
    ∙ set_ids v.pair a c (marked (v.pair a c) k) x y refl
