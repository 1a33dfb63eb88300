-- What was routed on each pair only grows, and a route makes one pair longer.
use Rattle.dm_law_moves.proofs.Names.{◌≡◌, ℕ, ◌+◌, ◌<◌, ◌≤◌, ◌==◌, ◌&&◌, ◌||◌, Bool, true, false, List, [], ◌∷◌, ◌++◌, length, refl, ap, ◌∙◌, sym, subst, inl, inr, arith, ⊤, if◌then◌else◌, Some, cases_Bool, false≢true}
use Rattle.dm_processor.proofs.Names.{length-append}
use Rattle.dm_law_moves.proofs.Names.{nat_tests, Pid, MsgId, MessageKind, plain_kind, Line, Load, at_pair, Receiver, Part, Says, Routes, Again, Owns, Transmits, Spelled, goes_out, packet_line, puts, spelled, Point, after, Pair, View}
use Rattle.dm_law_moves.proofs.Names.{own_id, routed_on, seen, OneKernel, hushed, is_put, set_is, set_other, set_same, Onward, bind-is, one_view, onward, pair_same, says_view, touches, transmits_view, two_views, weight_of}
use Rattle.dm_law_moves.proofs.Settles.Effects.{Effect, Returns, back_in, calm_weight, comes_in, effect}
use Rattle.dm_law_moves.proofs.Settles.Falls.Handles.{AllCalm, IsCalm, has_route, is_back, is_route}
use Rattle.dm_law_moves.proofs.Settles.Rests.RestsPairs.{repeated}

pub record Grows (f g : ℕ → ℕ → Pair) : Type 0 where
  pub ids : (a c : ℕ) → length (f a c).ids ≤ length (g a c).ids
  pub taken : (a c : ℕ) → (a == c) ≡ false → (g a c).taken ≡ (f a c).taken

pub record Longer (f g : ℕ → ℕ → Pair) : Type 0 where
  pub from : ℕ
  pub to : ℕ
  pub more : length (f from to).ids < length (g from to).ids

pub grows_same : (f g : ℕ → ℕ → Pair) → g ≡ f → Grows f g
grows_same f g e = subst (Grows f) (sym e) (record { ids = λ a c. omega arith; taken = λ a c h. refl })

pub grows_on : (f g h : ℕ → ℕ → Pair) → Grows f g → Grows g h → Grows f h
grows_on f g h x y = record { ids = λ a c. let p = x.ids a c in let q = y.ids a c in omega (arith, p, q); taken = λ a c e. y.taken a c e ∙ x.taken a c e }

pub longer_first : (f g h : ℕ → ℕ → Pair) → Longer f g → Grows g h → Longer f h
longer_first f g h x y = record { from = x.from; to = x.to; more = let p = x.more in let q = y.ids x.from x.to in omega (arith, p, q) }

pub longer_last : (f g h : ℕ → ℕ → Pair) → Grows f g → Longer g h → Longer f h
longer_last f g h x y = record { from = y.from; to = y.to; more = let p = y.more in let q = x.ids y.from y.to in omega (arith, p, q) }

-- one pair is set
set_grows : (f : ℕ → ℕ → Pair) (a b : ℕ) (p : Pair) → length (f a b).ids ≤ length p.ids → ((a == b) ≡ false → p.taken ≡ (f a b).taken) → Grows f (at_pair f a b p)
set_grows f a b p ids taken = record {
  ids = λ c d. elim (cases_Bool ((a == c) && (b == d))) [
    | inl same ↦
        let one : a ≡ c = grind (arith, nat_tests) in
        let two : b ≡ d = grind (arith, nat_tests) in
        let is = ap (λ (q : Pair). length q.ids) (set_is f a b p c d same) in
        let old : length (f a b).ids ≡ length (f c d).ids = ap (λ (n : ℕ). length (f n b).ids) one ∙ ap (λ (n : ℕ). length (f c n).ids) two in
        omega (arith, ids, is, old)
    | inr apart ↦ let is = ap (λ (q : Pair). length q.ids) (set_other f a b p c d apart) in omega (arith, is)
  ];
  taken = λ c d e. elim (cases_Bool ((a == c) && (b == d))) [
    | inl same ↦
        let one : a ≡ c = grind (arith, nat_tests) in
        let two : b ≡ d = grind (arith, nat_tests) in
        let off : (a == b) ≡ false = ap (λ (n : ℕ). n == b) one ∙ ap (λ (n : ℕ). c == n) two ∙ e in
        ap (λ (q : Pair). q.taken) (set_is f a b p c d same) ∙ taken off ∙ ap (λ (n : ℕ). (f n b).taken) one ∙ ap (λ (n : ℕ). (f c n).taken) two
    | inr apart ↦ ap (λ (q : Pair). q.taken) (set_other f a b p c d apart)
  ];
}

pub one_longer : (ids : List MsgId) (id : MsgId) → length (ids ++ id ∷ []) ≡ length ids + 1
one_longer ids id = length-append ids (id ∷ [])

route_grows : (f : ℕ → ℕ → Pair) (a b : ℕ) (id : MsgId) → Grows f (at_pair f a b (routed_on a b (f a b) id))
route_grows f a b id =
    set_grows f a b (routed_on a b (f a b) id) (let e = one_longer (f a b).ids id in omega (arith, e)) (λ off. ap (λ (c : Bool). if c then (f a b).taken + 1 else (f a b).taken) off)

route_longer : (f : ℕ → ℕ → Pair) (a b : ℕ) (id : MsgId) → Longer f (at_pair f a b (routed_on a b (f a b) id))
route_longer f a b id = record {
  from = a;
  to = b;
  more = let e = one_longer (f a b).ids id in let s = ap (λ (q : Pair). length q.ids) (set_same f a b (routed_on a b (f a b) id)) in omega (arith, e, s);
}

packet_grows : (f : ℕ → ℕ → Pair) (a b : ℕ) (l : Load) → Grows f (at_pair f a b (repeated l (f a b)))
packet_grows f a b l = set_grows f a b (repeated l (f a b)) (omega arith) (λ off. refl)

record Routed (f g : ℕ → ℕ → Pair) : Type 0 where
  grows : Grows f g
  longer : Longer f g

puts_by : (pt next : Point) (b : ℕ) (id : MsgId) (k : MessageKind) (q : Pid) (home out : Bool)
    → after pt (Line.Put pt.view.acting b id k q ∷ (if home then [] else if out then packet_line pt.view pt.view.acting b (Load.Data (length (pt.view.pair pt.view.acting b).ids)) ∷ [] else [])) ≡ Some next → Routed pt.view.pair next.view.pair
puts_by pt next b id k q true out is =
    subst (λ (v : View). Routed pt.view.pair v.pair) (sym (one_view pt next (Line.Put pt.view.acting b id k q) is)) (record { grows = route_grows pt.view.pair pt.view.acting b id; longer = route_longer pt.view.pair pt.view.acting b id })
puts_by pt next b id k q false false is =
    subst (λ (v : View). Routed pt.view.pair v.pair) (sym (one_view pt next (Line.Put pt.view.acting b id k q) is)) (record { grows = route_grows pt.view.pair pt.view.acting b id; longer = route_longer pt.view.pair pt.view.acting b id })
puts_by pt next b id k q false true is =
    let f = pt.view.pair in
    let a = pt.view.acting in
    let g = at_pair f a b (routed_on a b (f a b) id) in
    let n = length (f a b).ids in
    let p = packet_line pt.view a b (Load.Data n) in
    let first = route_grows f a b id in
    let second = packet_grows g a b (Load.Data n) in
    subst (λ (v : View). Routed f v.pair) (sym (two_views pt next (Line.Put a b id k q) p tt tt is))
    (record { grows = grows_on f g (at_pair g a b (repeated (Load.Data n) (g a b))) first second; longer = longer_first f g (at_pair g a b (repeated (Load.Data n) (g a b))) (route_longer f a b id) second })

puts_lead : (pt next : Point) (b : ℕ) (id : MsgId) (k : MessageKind) (q : Pid) (ls : List Line) → Some (puts pt.view b id k q) ≡ Some ls → after pt ls ≡ Some next → Routed pt.view.pair next.view.pair
puts_lead pt next b id k q ls is leads =
    let f : puts pt.view b id k q ≡ ls = cc in puts_by pt next b id k q (pt.view.acting == b) (goes_out (pt.view.pair pt.view.acting b)) (ap (after pt) f ∙ leads)

-- calm parts
-- parts that take nothing: lines that change no pair, puts, and packets
abbrev pub IsLight : Part → Type 0
IsLight (Says l) = touches l ≡ false
IsLight _ = ⊤

abbrev pub AllLight : List Part → Type 0
AllLight [] = ⊤
AllLight (p ∷ ps) = IsLight p × AllLight ps

calm_part : (p : Part) → IsCalm p → IsLight p
calm_part (Says l) h = h.0
calm_part (Transmits a b l) h = absurd h
calm_part _ h = tt

pub calm_light : (ps : List Part) → AllCalm ps → AllLight ps
calm_light [] h = tt
calm_light (p ∷ ps) h = (calm_part p h.0, calm_light ps h.1)

part_grows : (pt : Point) (p : Part) (ps : List Part) (w : Spelled) (o : Onward pt p ps w) → IsLight p → Grows pt.view.pair o.next.view.pair
part_grows pt (Says l) ps w o light = grows_same pt.view.pair o.next.view.pair (ap (λ (v : View). v.pair) (says_view pt l ps w o) ∙ pair_same pt.view l light)
part_grows pt (Routes id) ps w o light =
    let at = (pt.addresses (Receiver id)).at in
    let (m, there, is) = bind-is (pt.kernel.bag id) (λ m. Some (puts pt.view at id (plain_kind m.what) m.to)) o.lines o.lines_are in
    (puts_lead pt o.next at id (plain_kind m.what) m.to o.lines is o.leads).grows
part_grows pt (Again id b) ps w o light =
    let (t, there, is) = bind-is (pt.view.told id) (λ t. Some (puts pt.view b id t.kind t.receiver)) o.lines o.lines_are in
    (puts_lead pt o.next b id t.kind t.receiver o.lines is o.leads).grows
part_grows pt (Owns k q b) ps w o light = (puts_lead pt o.next b (own_id pt.view) k q o.lines o.lines_are o.leads).grows
part_grows pt (Transmits a b l) ps w o light = subst (λ (v : View). Grows pt.view.pair v.pair) (sym (transmits_view pt a b l ps w o)) (packet_grows pt.view.pair a b l)

part_longer : (pt : Point) (p : Part) (ps : List Part) (w : Spelled) (o : Onward pt p ps w) → is_route p ≡ true → Longer pt.view.pair o.next.view.pair
part_longer pt (Routes id) ps w o e =
    let at = (pt.addresses (Receiver id)).at in
    let (m, there, is) = bind-is (pt.kernel.bag id) (λ m. Some (puts pt.view at id (plain_kind m.what) m.to)) o.lines o.lines_are in
    (puts_lead pt o.next at id (plain_kind m.what) m.to o.lines is o.leads).longer
part_longer pt (Again id b) ps w o e =
    let (t, there, is) = bind-is (pt.view.told id) (λ t. Some (puts pt.view b id t.kind t.receiver)) o.lines o.lines_are in
    (puts_lead pt o.next b id t.kind t.receiver o.lines is o.leads).longer
part_longer pt (Owns k q b) ps w o e = (puts_lead pt o.next b (own_id pt.view) k q o.lines o.lines_are o.leads).longer
part_longer pt _ ps w o e = absurd (false≢true e)

pub parts_grow : (ps : List Part) (pt : Point) (w : Spelled) → AllLight ps → spelled pt ps ≡ Some w → Grows pt.view.pair w.point.view.pair
parts_grow [] pt w light e = let f : record { lines = []; point = pt } ≡ w = cc in grows_same pt.view.pair w.point.view.pair (ap (λ (x : Spelled). x.point.view.pair) (sym f))
parts_grow (p ∷ ps) pt w light e =
    let o = onward pt p ps w e in
    subst (λ (q : Point). Grows pt.view.pair q.view.pair) o.end (grows_on pt.view.pair o.next.view.pair o.rest.point.view.pair (part_grows pt p ps w o light.0) (parts_grow ps o.next o.rest light.1 o.on))

pub parts_longer : (ps : List Part) (pt : Point) (w : Spelled) → AllLight ps → spelled pt ps ≡ Some w → has_route ps ≡ true → Longer pt.view.pair w.point.view.pair
parts_longer [] pt w light e h = absurd (false≢true h)
parts_longer (p ∷ ps) pt w light e h =
    let o = onward pt p ps w e in
    subst (λ (q : Point). Longer pt.view.pair q.view.pair) o.end (by pt.view.pair o.next.view.pair o.rest.point.view.pair (is_route p) (has_route ps) h (part_longer pt p ps w o) (part_grows pt p ps w o light.0) (parts_grow ps o.next o.rest light.1 o.on) (parts_longer ps o.next o.rest light.1 o.on))
  where
    by : (f g h : ℕ → ℕ → Pair) (x y : Bool) → (x || y) ≡ true → (x ≡ true → Longer f g) → Grows f g → Grows g h → (y ≡ true → Longer g h) → Longer f h
    by f g h true y e here first rest later = longer_first f g h (here refl) rest
    by f g h false y e here first rest later = longer_last f g h first (later e)

-- where none of them is a route, nothing comes on its way, and nothing is told
pub record Lowers (v w : View) : Type 0 where
  pub weight_ : (f : MsgId → ℕ) (n : ℕ) → weight_of f n w ≤ weight_of f n v
  pub told : w.told ≡ v.told
  pub pair : w.pair ≡ v.pair

pub touches_none : (l : Line) → touches l ≡ false → (comes_in l ≡ false) × (is_put l ≡ false)
touches_none (Line.Put a b id k q) e = cc
touches_none (Line.Taken a b n) e = cc
touches_none l e = (refl, refl)

pub no_back : (v : View) (e : Effect) → is_back e ≡ false → back_in v e ≡ []
no_back v (Returns p) h = absurd (false≢true (sym h))
no_back v _ h = refl

lowers_line : (s : OneKernel) (v : View) (l : Line) → touches l ≡ false → is_back (effect l) ≡ false → Lowers v (seen s v l)
lowers_line s v l touch back =
    let none = touches_none l touch in
    record { weight_ = λ f n. calm_weight f n v l none.0 (no_back v (effect l) back); told = (hushed v l none.1).told; pair = pair_same v l touch }

lowers_on : (u v w : View) → Lowers u v → Lowers v w → Lowers u w
lowers_on u v w x y = record { weight_ = λ f n. let p = x.weight_ f n in let q = y.weight_ f n in omega (arith, p, q); told = y.told ∙ x.told; pair = y.pair ∙ x.pair }

pub parts_lower : (ps : List Part) (pt : Point) (w : Spelled) → AllCalm ps → has_route ps ≡ false → spelled pt ps ≡ Some w → Lowers pt.view w.point.view
parts_lower [] pt w calm none e =
    let f : record { lines = []; point = pt } ≡ w = cc in
    subst (λ (x : Spelled). Lowers pt.view x.point.view) f (record { weight_ = λ f n. omega arith; told = refl; pair = refl })
parts_lower (Says l ∷ ps) pt w calm none e =
    let o = onward pt (Says l) ps w e in
    let first : Lowers pt.view o.next.view = subst (Lowers pt.view) (sym (says_view pt l ps w o)) (lowers_line pt.kernel pt.view l calm.0.0 calm.0.1) in
    subst (λ (q : Point). Lowers pt.view q.view) o.end (lowers_on pt.view o.next.view o.rest.point.view first (parts_lower ps o.next o.rest calm.1 none o.on))
parts_lower (Transmits a b l ∷ ps) pt w calm none e = absurd calm.0
parts_lower _ pt w calm none e = absurd (false≢true (sym none))
