-- What lines and parts keep of the pairs of machines.
use Rattle.dm_law_rule.proofs.Names.{◌≡◌, ℕ, ◌<◌, ◌≤◌, ◌==◌, Bool, true, false, List, [], ◌∷◌, ◌++◌, refl, ap, ◌∙◌, sym, subst, arith, length, ⊤, if◌then◌else◌, Option, None, Some, Pid, MsgId, MessageKind, plain_kind, Label, bind, Line, Load}
use Rattle.dm_law_rule.proofs.Names.{Stage, View, Pair, Told, view_after, after_label, after_stage, after_packet, queued_for, held_for, forwarded_for, ends_by, taken_id, own_id, after_proto, asks_on, About, NothingElse, Target, seen, sets_off}
use Rattle.dm_law_rule.proofs.Names.{Receiver, Point, kernel_after, label_of, moved, after_line, after, Part, Says, Routes, Again, Owns, Transmits, Spelled, spelled, behind, lines_of, puts, packet_line, goes_out, IsUnasked, sort_of, nat_tests}
use Rattle.dm_law_rule.proofs.Names.{at_pair}
use Rattle.dm_law_rule.proofs.Seen.{seen_is}
use Rattle.dm_law_rule.proofs.Pairs.Stand.{Later}
use Rattle.dm_law_rule.proofs.Pairs.Moves.{Paired, Goes, again_goes, route_out, route_packed, route_home, packed, packed_goes}
pub use Rattle.dm_law_one.proofs.Steps.{bind-is}

-- lines that say something of a pair
abbrev pub touches : Line → Bool
touches (Line.Head s) = true
touches (Line.Put a b id k q) = true
touches (Line.Packet a b k l) = true
touches (Line.Taken a b n) = true
touches (Line.Early a b n) = true
touches (Line.Acked a b n) = true
touches l = false

pub queued_pair : (v : View) (id : MsgId) (o : Option Pid) → (queued_for v id o).pair ≡ v.pair
queued_pair v id None = refl
queued_pair v id (Some p) = refl

pub held_pair : (v : View) (id : MsgId) (o : Option Pid) → (held_for v id o).pair ≡ v.pair
held_pair v id None = refl
held_pair v id (Some p) = refl

pub forwarded_pair : (v : View) (o : Option Pid) → (forwarded_for v o).pair ≡ v.pair
forwarded_pair v None = refl
forwarded_pair v (Some p) = refl

pub taken_pair : (v : View) (b : ℕ) (o : Option MsgId) → (taken_id v b o).pair ≡ v.pair
taken_pair v b None = refl
taken_pair v b (Some id) = refl

pub label_pair : (v : View) (l : Label) → (after_label v l).pair ≡ v.pair
label_pair v l = let kills_pair : (k : MessageKind) (v : View) (o : Option Pid) → (ends_by (sort_of k) v o).pair ≡ v.pair = λ k v o. search arith in grind (arith, nat_tests, kills_pair)

pub stage_pair : (v : View) (p : Pid) (s : Stage) → (after_stage v p s).pair ≡ v.pair
stage_pair v p Stage.Frozen = elim v.topic as (λ a. (sets_off v p a).pair ≡ v.pair) [ Target m ↦ refl | _ ↦ refl ]
stage_pair v p _ = refl

pub proto_pair : (v : View) (o : Option Told) → (after_proto v o).pair ≡ v.pair
proto_pair v None = refl
proto_pair v (Some t) = let asks_pair : (v : View) (a : About) → (asks_on v a).pair ≡ v.pair = λ v a. elim a as (λ a_. (asks_on v a_).pair ≡ v.pair) [ NothingElse ↦ refl | _ ↦ refl ] in grind (arith, nat_tests, asks_pair)

-- the other lines leave the pairs as they are
pub pair_same : (v : View) (l : Line) → touches l ≡ false → (view_after v l).pair ≡ v.pair
pair_same v l h1 = search (arith, label_pair, queued_pair, held_pair, forwarded_pair, stage_pair, proto_pair)

-- the view after a line
pub line_view : (pt next : Point) (l : Line) → after_line pt l ≡ Some next → next.view ≡ seen pt.kernel pt.view l
line_view pt next l e =
    let (s, k, is) = bind-is (kernel_after pt.kernel (label_of l)) (λ s. Some (moved pt l s)) next e in
    let f : moved pt l s ≡ next = cc in sym (ap (λ (q : Point). q.view) f)

pub one_view : (pt next : Point) (l : Line) → after pt (l ∷ []) ≡ Some next → next.view ≡ seen pt.kernel pt.view l
one_view pt next l e =
    let (mid, first, rest) = bind-is (after_line pt l) (λ q. after q []) next e in
    let f : mid ≡ next = cc in sym (ap (λ (q : Point). q.view) f) ∙ line_view pt mid l first

pub two_views : (pt next : Point) (l k : Line) → IsUnasked (label_of l) → IsUnasked (label_of k) → after pt (l ∷ k ∷ []) ≡ Some next → next.view ≡ view_after (view_after pt.view l) k
two_views pt next l k first_off next_off e =
    let (mid, first, rest) = bind-is (after_line pt l) (λ q. after q (k ∷ [])) next e in
    one_view mid next k rest ∙ seen_is mid.kernel mid.view k next_off ∙ ap (λ (v : View). view_after v k) (line_view pt mid l first ∙ seen_is pt.kernel pt.view l first_off)

-- a part first, and where the others lead from there
pub record Onward (pt : Point) (p : Part) (ps : List Part) (w : Spelled) : Type 0 where
  pub lines : List Line
  pub lines_are : lines_of pt p ≡ Some lines
  pub next : Point
  pub leads : after pt lines ≡ Some next
  pub rest : Spelled
  pub on : spelled next ps ≡ Some rest
  pub end : rest.point ≡ w.point

pub onward : (pt : Point) (p : Part) (ps : List Part) (w : Spelled) → spelled pt (p ∷ ps) ≡ Some w → Onward pt p ps w
onward pt p ps w e =
    let (ls, lines, more) = bind-is (lines_of pt p) (λ ls. bind (after pt ls) (λ next. bind (spelled next ps) (λ rest. Some (behind ls rest)))) w e in
    let (next, leads, last) = bind-is (after pt ls) (λ next. bind (spelled next ps) (λ rest. Some (behind ls rest))) w more in
    let (rest, on, is) = bind-is (spelled next ps) (λ rest. Some (behind ls rest)) w last in
    record { lines = ls; lines_are = lines; next = next; leads = leads; rest = rest; on = on; end = ap (λ (x : Spelled). x.point) (let f : behind ls rest ≡ w = cc in f) }

pub says_view : (pt : Point) (l : Line) (ps : List Part) (w : Spelled) (o : Onward pt (Says l) ps w) → o.next.view ≡ seen pt.kernel pt.view l
says_view pt l ps w o = let f : l ∷ [] ≡ o.lines = let g = o.lines_are in cc in one_view pt o.next l (ap (after pt) f ∙ o.leads)

pub transmits_view : (pt : Point) (a b : ℕ) (l : Load) (ps : List Part) (w : Spelled) (o : Onward pt (Transmits a b l) ps w) → o.next.view ≡ after_packet pt.view a b l
transmits_view pt a b l ps w o =
    one_view pt o.next (packet_line pt.view a b l) (ap (after pt) (let f : packet_line pt.view a b l ∷ [] ≡ o.lines = let g = o.lines_are in cc in f) ∙ o.leads)

-- a route keeps
puts_goes : (pt next : Point) (b : ℕ) (id : MsgId) (k : MessageKind) (q : Pid) (home out : Bool) → (pt.view.acting == b) ≡ home → goes_out (pt.view.pair pt.view.acting b) ≡ out
    → after pt (Line.Put pt.view.acting b id k q ∷ (if home then [] else if out then packet_line pt.view pt.view.acting b (Load.Data (length (pt.view.pair pt.view.acting b).ids)) ∷ [] else [])) ≡ Some next
    → Paired pt.view.pair → Goes pt.view.pair next.view.pair
puts_goes pt next b id k q true out e f is h =
    subst (λ (v : View). Goes pt.view.pair v.pair) (sym (one_view pt next (Line.Put pt.view.acting b id k q) is)) (route_home pt.view.pair pt.view.acting b id e h)
puts_goes pt next b id k q false false e f is h =
    subst (λ (v : View). Goes pt.view.pair v.pair) (sym (one_view pt next (Line.Put pt.view.acting b id k q) is)) (route_out pt.view.pair pt.view.acting b id e h)
puts_goes pt next b id k q false true e f is h =
    let p = packet_line pt.view pt.view.acting b (Load.Data (length (pt.view.pair pt.view.acting b).ids)) in
    subst (λ (v : View). Goes pt.view.pair v.pair) (sym (two_views pt next (Line.Put pt.view.acting b id k q) p tt tt is)) (route_packed pt.view.pair pt.view.acting b id e f h)

puts_lead : (pt next : Point) (b : ℕ) (id : MsgId) (k : MessageKind) (q : Pid) (ls : List Line) → Some (puts pt.view b id k q) ≡ Some ls → after pt ls ≡ Some next → Paired pt.view.pair → Goes pt.view.pair next.view.pair
puts_lead pt next b id k q ls is leads h =
    puts_goes pt next b id k q (pt.view.acting == b) (goes_out (pt.view.pair pt.view.acting b)) refl refl (ap (after pt) (let f : puts pt.view b id k q ≡ ls = cc in f) ∙ leads) h

-- parts that keep the pairs wherever they stand: a line that says nothing of pairs, a route, a packet that may go again, an
-- acknowledgement of what was taken
abbrev pub Fits : (ℕ → ℕ → Pair) → Part → Type 0
Fits f (Says l) = touches l ≡ false
Fits f (Transmits a b (Load.Data n)) = ((a == b) ≡ false) × (n < (f a b).gone)
Fits f (Transmits a b (Load.Ack n)) = ((a == b) ≡ false) × (n ≤ (f b a).taken)
Fits f _ = ⊤

abbrev pub AllFit : (ℕ → ℕ → Pair) → List Part → Type 0
AllFit f [] = ⊤
AllFit f (p ∷ ps) = Fits f p × AllFit f ps

pub AllFit-later : (f g : ℕ → ℕ → Pair) (ps : List Part) → Later f g → AllFit f ps → AllFit g ps
AllFit-later f g [] k h = h
AllFit-later f g (p ∷ ps) k h = ((let e_ : Fits g p = search (arith, h.0) in e_), AllFit-later f g ps k h.1)

pub AllFit-both : (f : ℕ → ℕ → Pair) (ps qs : List Part) → AllFit f ps → AllFit f qs → AllFit f (ps ++ qs)
AllFit-both f [] qs h k = k
AllFit-both f (p ∷ ps) qs h k = (h.0, AllFit-both f ps qs h.1 k)

pub fitting_goes : (pt : Point) (p : Part) (ps : List Part) (w : Spelled) (o : Onward pt p ps w) → Fits pt.view.pair p → Paired pt.view.pair → Goes pt.view.pair o.next.view.pair
fitting_goes pt (Says l) ps w o fits h =
    let is : o.next.view.pair ≡ pt.view.pair = ap (λ (v : View). v.pair) (says_view pt l ps w o) ∙ pair_same pt.view l fits in
    subst (Goes pt.view.pair) (sym is) (record { paired = h; later = (let e_ : Later pt.view.pair pt.view.pair = record { taken = λ a b. omega arith; gone = λ a b. omega arith } in e_) })
fitting_goes pt (Routes id) ps w o fits h =
    let at = (pt.addresses (Receiver id)).at in
    let (m, there, is) = bind-is (pt.kernel.bag id) (λ m. Some (puts pt.view at id (plain_kind m.what) m.to)) o.lines o.lines_are in
    puts_lead pt o.next at id (plain_kind m.what) m.to o.lines is o.leads h
fitting_goes pt (Again id b) ps w o fits h =
    let (t, there, is) = bind-is (pt.view.told id) (λ t. Some (puts pt.view b id t.kind t.receiver)) o.lines o.lines_are in
    puts_lead pt o.next b id t.kind t.receiver o.lines is o.leads h
fitting_goes pt (Owns k q b) ps w o fits h = puts_lead pt o.next b (own_id pt.view) k q o.lines o.lines_are o.leads h
fitting_goes pt (Transmits a b (Load.Data n)) ps w o fits h =
    subst (λ (v : View). Goes pt.view.pair v.pair) (sym (transmits_view pt a b (Load.Data n) ps w o)) (again_goes pt.view.pair a b n fits.0 fits.1 h)
fitting_goes pt (Transmits a b (Load.Ack n)) ps w o fits h =
    let ack_goes : (f : ℕ → ℕ → Pair) (a b n : ℕ) → (a == b) ≡ false → n ≤ (f b a).taken → Paired f → Goes f (at_pair f a b (packed (Load.Ack n) (f a b))) =
    λ f a b n ab le h. let x = h.stand.apart a b ab in packed_goes f a b (Load.Ack n) ab le (omega arith) x.gone x.full h in
    subst (λ (v : View). Goes pt.view.pair v.pair) (sym (transmits_view pt a b (Load.Ack n) ps w o)) (ack_goes pt.view.pair a b n fits.0 fits.1 h)

pub keeps : (ps : List Part) (pt : Point) (w : Spelled) → AllFit pt.view.pair ps → Paired pt.view.pair → spelled pt ps ≡ Some w → Paired w.point.view.pair
keeps [] pt w fits h e = let f : record { lines = []; point = pt } ≡ w = cc in subst (λ (x : Spelled). Paired x.point.view.pair) f h
keeps (p ∷ ps) pt w fits h e =
    let o = onward pt p ps w e in
    let g = fitting_goes pt p ps w o fits.0 h in
    subst (λ (x : Point). Paired x.view.pair) o.end (keeps ps o.next o.rest (AllFit-later pt.view.pair o.next.view.pair ps g.later fits.1) g.paired o.on)
