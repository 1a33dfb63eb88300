-- A delivery leaves one packet fewer on its wire that was never delivered.
use Rattle.dm_law_runs.proofs.Names.{◌≡◌, ◌≢◌, ℕ, suc, ◌+◌, ◌==◌, ◌&&◌, Bool, true, false, not, filter, nat_lt, List, [], ◌∷◌, ◌++◌, length, refl, ap, ◌∙◌, sym, subst, inl, inr, arith, ⊤, if◌then◌else◌, slice_get, Option, None, Some}
use Rattle.dm_law_runs.proofs.Names.{cases_Bool, nat_tests, Boot, Step, Line, Load, first_undelivered, undelivered, Part, Says, Transmits, Spelled, spelled, pair_window, Point, moved, group_of, View, Pair, SentLoad, view_after, after_head}
use Rattle.dm_law_runs.proofs.Names.{after_packet, marked, marked_at, gone_after, at_least, IsNetLine, group_is, onward, says_view, transmits_view, said, mark_next}
use Rattle.dm_law_rule.specs.Rule as rule
use Rattle.dm_law_runs.proofs.Wires.{set_keeps, taken_keeps}

-- how many packets of a wire were never delivered
abbrev pub waiting : List SentLoad → ℕ
waiting [] = 0
waiting (s ∷ ss) = (if s.delivered then 0 else 1) + waiting ss

abbrev pub wire_on : View → ℕ → ℕ → List SentLoad
wire_on v a b = (v.pair a b).wire

abbrev pub waits : View → ℕ → ℕ → ℕ
waits v a b = waiting (wire_on v a b)

-- the first of them is marked
pub record Marks (ss : List SentLoad) (n : ℕ) : Type 0 where
  pub fewer : suc (waiting (marked_at ss n (slice_get ss n))) ≡ waiting ss

marks_behind : (s : SentLoad) (ss : List SentLoad) (n : ℕ) → s.delivered ≡ true → Marks ss n → Marks (s ∷ ss) (suc n)
marks_behind s ss n seen h =
    let before : waiting (s ∷ ss) ≡ 0 + waiting ss = ap (λ (c : Bool). (if c then 0 else 1) + waiting ss) seen in
    let after_ : waiting (marked_at (s ∷ ss) (suc n) (slice_get ss n)) ≡ 0 + waiting (marked_at ss n (slice_get ss n)) =
    ap waiting (mark_next s ss n (slice_get ss n)) ∙ ap (λ (c : Bool). (if c then 0 else 1) + waiting (marked_at ss n (slice_get ss n))) seen in
    let f = h.fewer in
    record { fewer = omega (arith, before, after_, f) }

marks_first : (s : SentLoad) (ss : List SentLoad) → s.delivered ≡ false → Marks (s ∷ ss) 0
marks_first s ss new =
    let before : waiting (s ∷ ss) ≡ 1 + waiting ss = ap (λ (c : Bool). (if c then 0 else 1) + waiting ss) new in
    record { fewer = omega (arith, before) }

first_at : (k : ℕ) (ss : List SentLoad) (j : ℕ) → first_undelivered k ss ≡ Some j → (n : ℕ) × (j ≡ k + n) × Marks ss n
first_at k [] j e = cc
first_at k (s ∷ ss) j e = elim (cases_Bool s.delivered) [
  | inl seen ↦
      let (n, at, h) = first_at (k + 1) ss j (sym (ap (λ (c : Bool). if c then first_undelivered (k + 1) ss else Some k) seen) ∙ e) in
      (suc n, omega (arith, at), marks_behind s ss n seen h)
  | inr new ↦
      let f : Some k ≡ Some j = sym (ap (λ (c : Bool). if c then first_undelivered (k + 1) ss else Some k) new) ∙ e in
      let g : k ≡ j = cc in
      (0, omega (arith, g), marks_first s ss new)
]

pub first_marks : (ss : List SentLoad) (k : ℕ) → first_undelivered 0 ss ≡ Some k → Marks ss k
first_marks ss k e =
    let (n, at, h) = first_at 0 ss k e in
    let f : n ≡ k = omega (arith, at) in
    subst (Marks ss) f h

-- the lines of an arrival leave all wires, and what it transmits goes the other way
wire_net : (v : View) (l : Line) (c d : ℕ) → IsNetLine l → wire_on (view_after v l) c d ≡ wire_on v c d
wire_net v (Line.Taken a b n) c d h = taken_keeps (λ (p : Pair). p.wire) v a b n c d refl
wire_net v (Line.Early a b n) c d h = set_keeps (λ (p : Pair). p.wire) v.pair a b (record (v.pair a b) { kept = n ∷ filter (λ k. not (k == n)) (v.pair a b).kept }) c d refl
wire_net v (Line.Acked a b n) c d h = set_keeps (λ (p : Pair). p.wire) v.pair b a (record (v.pair b a) { acked = at_least (v.pair b a).acked n }) c d refl
wire_net v (Line.Old a b n) c d h = refl
wire_net v Line.Nothing c d h = refl
wire_net v (Line.Resent m n) c d h = refl
wire_net v l c d h = absurd h

wire_back : (v : View) (a c : ℕ) (l : Load) → a ≢ c → wire_on (after_packet v c a l) a c ≡ wire_on v a c
wire_back v a c l apart =
    let off : ((c == a) && (a == c)) ≡ false = grind (arith, nat_tests) in
    ap (λ (t : Bool). (if t then record (v.pair c a) { gone = gone_after l (v.pair c a).gone; wire = (v.pair c a).wire ++ record { load = l; delivered = false } ∷ [] } else v.pair a c).wire) off

abbrev PartBack : ℕ → ℕ → Part → Type 0
PartBack a c (Says l) = IsNetLine l
PartBack a c (Transmits x y l) = (x ≡ c) × (y ≡ a)
PartBack a c _ = ⊥

abbrev AllBack : ℕ → ℕ → List Part → Type 0
AllBack a c [] = ⊤
AllBack a c (p ∷ ps) = PartBack a c p × AllBack a c ps

both_back : (a c : ℕ) (ps qs : List Part) → AllBack a c ps → AllBack a c qs → AllBack a c (ps ++ qs)
both_back a c [] qs h k = k
both_back a c (p ∷ ps) qs h k = (h.0, both_back a c ps qs h.1 k)

repeats_back : (a c : ℕ) (ns : List ℕ) → AllBack a c (rule.repeats c a ns)
repeats_back a c [] = tt
repeats_back a c (n ∷ ns) = ((refl, refl), repeats_back a c ns)

takes_back : (a c : ℕ) (ns : List ℕ) → AllBack a c (rule.taking_parts a c ns)
takes_back a c [] = tt
takes_back a c (n ∷ ns) = (tt, takes_back a c ns)

data_back : (a c : ℕ) (p : Pair) (n : ℕ) (x y : Bool)
    → AllBack a c (if x then Says (Line.Old a c n) ∷ Transmits c a (Load.Ack p.taken) ∷ [] else if y then Says (Line.Early a c n) ∷ Transmits c a (Load.Ack p.taken) ∷ [] else rule.takes_on a c n (rule.kept_from p.kept (n + 1) pair_window))
data_back a c p n true y = (tt, ((refl, refl), tt))
data_back a c p n false true = (tt, ((refl, refl), tt))
data_back a c p n false false =
    let ns = n ∷ rule.kept_from p.kept (n + 1) pair_window in
    both_back a c (rule.taking_parts a c ns) (Transmits c a (Load.Ack (n + 1 + length (rule.kept_from p.kept (n + 1) pair_window))) ∷ []) (takes_back a c ns) ((refl, refl), tt)

comes_back : (a c : ℕ) (p q : Pair) (l : Load) → AllBack a c (rule.comes a c p q l)
comes_back a c p q (Load.Data n) = data_back a c p n (nat_lt n p.taken) (nat_lt p.taken n)
comes_back a c p q (Load.Ack n) = (tt, repeats_back a c (rule.let_go q (at_least q.acked n)))

arrives_back : (a c : ℕ) (p q : Pair) (o : Option SentLoad) → AllBack a c (rule.arrives a c p q o)
arrives_back a c p q None = (tt, tt)
arrives_back a c p q (Some s) = comes_back a c p q s.load

parts_wire : (a c : ℕ) (ps : List Part) (pt : Point) (w : Spelled) → a ≢ c → AllBack a c ps → spelled pt ps ≡ Some w → wire_on w.point.view a c ≡ wire_on pt.view a c
parts_wire a c [] pt w apart h e = ap (λ (q : Point). wire_on q.view a c) (sym (said pt w e))
parts_wire a c (Says l ∷ ps) pt w apart h e =
    let o = onward pt (Says l) ps w e in
    ap (λ (q : Point). wire_on q.view a c) (sym o.end) ∙ parts_wire a c ps o.next o.rest apart h.1 o.on ∙ ap (λ (v : View). wire_on v a c) (says_view pt l ps w o) ∙ wire_net pt.view l a c h.0
parts_wire a c (Transmits x y l ∷ ps) pt w apart h e =
    let o = onward pt (Transmits x y l) ps w e in
    ap (λ (q : Point). wire_on q.view a c) (sym o.end) ∙ parts_wire a c ps o.next o.rest apart h.1 o.on ∙ ap (λ (v : View). wire_on v a c) (transmits_view pt x y l ps w o)
    ∙ ap (λ (z : ℕ). wire_on (after_packet pt.view z y l) a c) h.0.0 ∙ ap (λ (z : ℕ). wire_on (after_packet pt.view c z l) a c) h.0.1 ∙ wire_back pt.view a c l apart
parts_wire a c _ pt w apart h e = absurd h.0

head_wire : (v : View) (a c k : ℕ) → wire_on (after_head v (Step.Deliver a c k)) a c ≡ marked_at (wire_on v a c) k (slice_get (wire_on v a c) k)
head_wire v a c k =
    let here : ((a == a) && (c == c)) ≡ true = grind (arith, nat_tests) in
    ap (λ (t : Bool). (if t then marked (v.pair a c) k else v.pair a c).wire) here

-- the first packet of a wire that was never delivered comes
pub fewer_wait : (b : Boot) (pt : Point) (a c k : ℕ) (w : Spelled) → a ≢ c → undelivered pt.view a c ≡ Some k → group_of b pt (Step.Deliver a c k) ≡ Some w → suc (waits w.point.view a c) ≡ waits pt.view a c
fewer_wait b pt a c k w apart first e =
    let g = group_is b pt (Step.Deliver a c k) w e in
    let s = slice_get (pt.view.pair a c).wire k in
    let qs = rule.arrives a c (pt.view.pair a c) (pt.view.pair c a) s in
    let f : qs ≡ g.parts = let t = g.is in cc in
    let start = moved pt (Line.Head (Step.Deliver a c k)) pt.kernel in
    let same : wire_on w.point.view a c ≡ marked_at (wire_on pt.view a c) k s =
    ap (λ (q : Point). wire_on q.view a c) (sym g.point) ∙ parts_wire a c qs start g.rest apart (arrives_back a c (pt.view.pair a c) (pt.view.pair c a) s) (ap (spelled start) f ∙ g.said) ∙ head_wire pt.view a c k in
    ap (λ (ss : List SentLoad). suc (waiting ss)) same ∙ (first_marks (wire_on pt.view a c) k first).fewer
