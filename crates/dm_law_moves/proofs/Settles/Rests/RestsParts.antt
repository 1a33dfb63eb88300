-- The pairs behind the parts of a group, and what the parts of a turn keep of what has been done on them.
use Rattle.dm_law_moves.proofs.Names.{◌≡◌, ℕ, ◌+◌, ◌<◌, ◌==◌, ◌&&◌, Bool, true, false, List, [], ◌∷◌, ◌++◌, length, refl, ap, ◌∙◌, sym, subst, inl, inr, arith, if◌then◌else◌, Some, cases_Bool, nat_tests, Pid, MsgId, MessageKind}
use Rattle.dm_law_moves.proofs.Names.{plain_kind, Line, Load, at_pair, Receiver, Part, Says, Routes, Again, Owns, Transmits, Spelled, goes_out, packet_line, puts, spelled, Point, after, Pair, View, gone_after, own_id, routed_on, set_other}
use Rattle.dm_law_moves.proofs.Names.{set_same, two_of, Paired, AllFit, AllFit-later, Fits, Onward, bind-is, fitting_goes, one_view, onward, pair_same, says_view, transmits_view, two_views, PairRests}
use Rattle.dm_law_moves.proofs.Settles.Rests.RestsPairs.{out_rests, repeat_back, repeat_rests, repeated, rests_back, route_rests, routed, routed_out}
use Rattle.dm_law_rule.proofs.Phases.Rests.{eq_other}

-- on each pair of different machines each has done its part
abbrev pub Rest : (ℕ → ℕ → Pair) → Type 0
Rest f = (a b : ℕ) → (a == b) ≡ false → PairRests (f a b) (f b a)

pub rest_same : (f g : ℕ → ℕ → Pair) → g ≡ f → Rest f → Rest g
rest_same f g e h = subst Rest (sym e) h

-- one pair of different machines changes, and perhaps the one that leads back
pub record Two (f g : ℕ → ℕ → Pair) (a b : ℕ) (p q : Pair) : Type 0 where
  pub there : g a b ≡ p
  pub back : g b a ≡ q
  pub others : (c d : ℕ) → ((a == c) && (b == d)) ≡ false → ((b == c) && (a == d)) ≡ false → g c d ≡ f c d

rests_at : (x y x' y' : Pair) → x ≡ x' → y ≡ y' → PairRests x' y' → PairRests x y
rests_at x y x' y' e g h = subst (λ (v : Pair). PairRests v y) (sym e) (subst (λ (v : Pair). PairRests x' v) (sym g) h)

swap : (a b c d : ℕ) → ((a == c) && (b == d)) ≡ false → ((b == d) && (a == c)) ≡ false
swap a b c d e = grind (arith, nat_tests)

pub rest_two : (f g : ℕ → ℕ → Pair) (a b : ℕ) (p q : Pair) → Two f g a b p q → PairRests p q → PairRests q p → Rest f → Rest g
rest_two f g a b p q two one other h c d cd = elim (cases_Bool ((a == c) && (b == d))) [
  | inl same ↦
      let x = two_of a b c d same in
      subst (λ (n : ℕ). PairRests (g n d) (g d n)) x.0 (subst (λ (n : ℕ). PairRests (g a n) (g n a)) x.1 (rests_at (g a b) (g b a) p q two.there two.back one))
  | inr off ↦ elim (cases_Bool ((b == c) && (a == d))) [
    | inl same ↦
        let x = two_of b a c d same in
        subst (λ (n : ℕ). PairRests (g n d) (g d n)) x.0 (subst (λ (n : ℕ). PairRests (g b n) (g n b)) x.1 (rests_at (g b a) (g a b) q p two.back two.there other))
    | inr apart ↦ rests_at (g c d) (g d c) (f c d) (f d c) (two.others c d off apart) (two.others d c (swap b a c d apart) (swap a b c d off)) (h c d cd)
  ]
]

not_back : (a b : ℕ) → (a == b) ≡ false → ((a == b) && (b == a)) ≡ false
not_back a b e = grind (arith, nat_tests)

-- only the one
pub one_set : (f : ℕ → ℕ → Pair) (a b : ℕ) (p : Pair) → (a == b) ≡ false → Two f (at_pair f a b p) a b p (f b a)
one_set f a b p ab = record { there = set_same f a b p; back = set_other f a b p b a (not_back a b ab); others = λ c d off apart. set_other f a b p c d off }

-- a machine's pair with itself
home_off : (a c d : ℕ) → (c == d) ≡ false → ((a == c) && (a == d)) ≡ false
home_off a c d e = grind (arith, nat_tests)

home_rest : (f : ℕ → ℕ → Pair) (a : ℕ) (p : Pair) → Rest f → Rest (at_pair f a a p)
home_rest f a p h c d cd =
    rests_at (at_pair f a a p c d) (at_pair f a a p d c) (f c d) (f d c) (set_other f a a p c d (home_off a c d cd)) (set_other f a a p d c (swap a a c d (home_off a c d cd))) (h c d cd)

pub home_rest_by : (f : ℕ → ℕ → Pair) (a b : ℕ) (p : Pair) → (a == b) ≡ true → Rest f → Rest (at_pair f a b p)
home_rest_by f a b p e h = let is : a ≡ b = grind (arith, nat_tests) in subst (λ (n : ℕ). Rest (at_pair f a n p)) is (home_rest f a p h)

pub repeat_rest : (f : ℕ → ℕ → Pair) (a b : ℕ) (l : Load) → (a == b) ≡ false → gone_after l (f a b).gone ≡ (f a b).gone → Rest f → Rest (at_pair f a b (repeated l (f a b)))
repeat_rest f a b l ab same h =
    rest_two f (at_pair f a b (repeated l (f a b))) a b (repeated l (f a b)) (f b a) (one_set f a b (repeated l (f a b)) ab)
    (repeat_rests l (f a b) (f b a) same (h a b ab)) (repeat_back l (f a b) (f b a) (h b a (eq_other a b ab))) h

-- a route
out_is : (a b : ℕ) (p : Pair) (id : MsgId) → (a == b) ≡ false → routed_on a b p id ≡ routed p id
out_is a b p id e = ap (λ (c : Bool). record p { ids = p.ids ++ id ∷ []; taken = if c then p.taken + 1 else p.taken; gone = if c then p.gone + 1 else p.gone; acked = if c then p.acked + 1 else p.acked }) e

pub route_rest : (f : ℕ → ℕ → Pair) (a b : ℕ) (id : MsgId) → (a == b) ≡ false → goes_out (f a b) ≡ false → Paired f → Rest f → Rest (at_pair f a b (routed_on a b (f a b) id))
route_rest f a b id ab out paired h =
    subst (λ (p : Pair). Rest (at_pair f a b p)) (sym (out_is a b (f a b) id ab))
    (rest_two f (at_pair f a b (routed (f a b) id)) a b (routed (f a b) id) (f b a) (one_set f a b (routed (f a b) id) ab)
    (route_rests (f a b) (f b a) id out (paired.stand.apart a b ab).full (h a b ab)) (rests_back (f b a) (f a b) (routed (f a b) id) (λ l g. g) (λ n c. c) (h b a (eq_other a b ab))) h)

-- a pair that is set twice
set_twice : (f : ℕ → ℕ → Pair) (a b : ℕ) (p q : Pair) → (a == b) ≡ false → Two f (at_pair (at_pair f a b p) a b q) a b q (f b a)
set_twice f a b p q ab = record {
  there = set_same (at_pair f a b p) a b q;
  back = set_other (at_pair f a b p) a b q b a (not_back a b ab) ∙ set_other f a b p b a (not_back a b ab);
  others = λ c d off apart. set_other (at_pair f a b p) a b q c d off ∙ set_other f a b p c d off;
}

pub out_rest : (f : ℕ → ℕ → Pair) (a b : ℕ) (id : MsgId) → (a == b) ≡ false → goes_out (f a b) ≡ true → Rest f
    → Rest (at_pair (at_pair f a b (routed_on a b (f a b) id)) a b (repeated (Load.Data (length (f a b).ids)) (at_pair f a b (routed_on a b (f a b) id) a b)))
out_rest f a b id ab out h =
    let first = at_pair f a b (routed_on a b (f a b) id) in
    let is : repeated (Load.Data (length (f a b).ids)) (first a b) ≡ routed_out (f a b) id = ap (repeated (Load.Data (length (f a b).ids))) (set_same f a b (routed_on a b (f a b) id) ∙ out_is a b (f a b) id ab) in
    subst (λ (p : Pair). Rest (at_pair first a b p)) (sym is)
    (rest_two f (at_pair first a b (routed_out (f a b) id)) a b (routed_out (f a b) id) (f b a) (set_twice f a b (routed_on a b (f a b) id) (routed_out (f a b) id) ab)
    (out_rests (f a b) (f b a) id out (h a b ab)) (repeat_back (Load.Data (length (f a b).ids)) (routed (f a b) id) (f b a) (rests_back (f b a) (f a b) (routed (f a b) id) (λ l g. g) (λ n c. c) (h b a (eq_other a b ab)))) h)

puts_rest : (pt next : Point) (b : ℕ) (id : MsgId) (k : MessageKind) (q : Pid) (home out : Bool) → (pt.view.acting == b) ≡ home → goes_out (pt.view.pair pt.view.acting b) ≡ out
    → after pt (Line.Put pt.view.acting b id k q ∷ (if home then [] else if out then packet_line pt.view pt.view.acting b (Load.Data (length (pt.view.pair pt.view.acting b).ids)) ∷ [] else [])) ≡ Some next
    → Paired pt.view.pair → Rest pt.view.pair → Rest next.view.pair
puts_rest pt next b id k q true out e f is paired h =
    subst (λ (v : View). Rest v.pair) (sym (one_view pt next (Line.Put pt.view.acting b id k q) is)) (home_rest_by pt.view.pair pt.view.acting b (routed_on pt.view.acting b (pt.view.pair pt.view.acting b) id) e h)
puts_rest pt next b id k q false false e f is paired h =
    subst (λ (v : View). Rest v.pair) (sym (one_view pt next (Line.Put pt.view.acting b id k q) is)) (route_rest pt.view.pair pt.view.acting b id e f paired h)
puts_rest pt next b id k q false true e f is paired h =
    let p = packet_line pt.view pt.view.acting b (Load.Data (length (pt.view.pair pt.view.acting b).ids)) in
    subst (λ (v : View). Rest v.pair) (sym (two_views pt next (Line.Put pt.view.acting b id k q) p tt tt is)) (out_rest pt.view.pair pt.view.acting b id e f h)

puts_lead : (pt next : Point) (b : ℕ) (id : MsgId) (k : MessageKind) (q : Pid) (ls : List Line) → Some (puts pt.view b id k q) ≡ Some ls → after pt ls ≡ Some next → Paired pt.view.pair → Rest pt.view.pair → Rest next.view.pair
puts_lead pt next b id k q ls is leads paired h =
    let f : puts pt.view b id k q ≡ ls = cc in
    puts_rest pt next b id k q (pt.view.acting == b) (goes_out (pt.view.pair pt.view.acting b)) refl refl (ap (after pt) f ∙ leads) paired h

old_number : (n gone : ℕ) → n < gone → gone_after (Load.Data n) gone ≡ gone
old_number n gone h = grind (arith, nat_tests)

-- a part of a turn or a tick
part_rests : (pt : Point) (p : Part) (ps : List Part) (w : Spelled) (o : Onward pt p ps w) → Fits pt.view.pair p → Paired pt.view.pair → Rest pt.view.pair → Rest o.next.view.pair
part_rests pt (Says l) ps w o fits paired h = rest_same pt.view.pair o.next.view.pair (ap (λ (v : View). v.pair) (says_view pt l ps w o) ∙ pair_same pt.view l fits) h
part_rests pt (Routes id) ps w o fits paired h =
    let at = (pt.addresses (Receiver id)).at in
    let (m, there, is) = bind-is (pt.kernel.bag id) (λ m. Some (puts pt.view at id (plain_kind m.what) m.to)) o.lines o.lines_are in
    puts_lead pt o.next at id (plain_kind m.what) m.to o.lines is o.leads paired h
part_rests pt (Again id b) ps w o fits paired h =
    let (t, there, is) = bind-is (pt.view.told id) (λ t. Some (puts pt.view b id t.kind t.receiver)) o.lines o.lines_are in
    puts_lead pt o.next b id t.kind t.receiver o.lines is o.leads paired h
part_rests pt (Owns k q b) ps w o fits paired h = puts_lead pt o.next b (own_id pt.view) k q o.lines o.lines_are o.leads paired h
part_rests pt (Transmits a b (Load.Data n)) ps w o fits paired h =
    subst (λ (v : View). Rest v.pair) (sym (transmits_view pt a b (Load.Data n) ps w o)) (repeat_rest pt.view.pair a b (Load.Data n) fits.0 (old_number n (pt.view.pair a b).gone fits.1) h)
part_rests pt (Transmits a b (Load.Ack n)) ps w o fits paired h =
    subst (λ (v : View). Rest v.pair) (sym (transmits_view pt a b (Load.Ack n) ps w o)) (repeat_rest pt.view.pair a b (Load.Ack n) fits.0 refl h)

pub parts_rest : (ps : List Part) (pt : Point) (w : Spelled) → AllFit pt.view.pair ps → Paired pt.view.pair → Rest pt.view.pair → spelled pt ps ≡ Some w → Rest w.point.view.pair
parts_rest [] pt w fits paired h e =
    let f : record { lines = []; point = pt } ≡ w = cc in
    subst (λ (x : Spelled). Rest x.point.view.pair) f h
parts_rest (p ∷ ps) pt w fits paired h e =
    let o = onward pt p ps w e in
    let g = fitting_goes pt p ps w o fits.0 paired in
    let k : Rest o.rest.point.view.pair = parts_rest ps o.next o.rest (AllFit-later pt.view.pair o.next.view.pair ps g.later fits.1) g.paired (part_rests pt p ps w o fits.0 paired h) o.on in
    subst (λ (x : Point). Rest x.view.pair) o.end k
