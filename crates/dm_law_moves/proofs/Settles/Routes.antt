-- What a route does to what is on its way, and how many routes lines say.
use Rattle.dm_law_moves.proofs.Names.{◌≡◌, ℕ, zero, suc, ◌+◌, ◌≤◌, ◌==◌, ◌&&◌, Bool, true, false, List, [], ◌∷◌, ◌++◌, drop, length, refl, ap, ◌∙◌, sym, subst, inl, inr, arith, drop-nil, if◌then◌else◌, Some, cases_Bool}
use Rattle.dm_processor.proofs.Names.{length-append}
use Rattle.dm_law_moves.proofs.Names.{eqb_tells, nat_tests, Pid, MsgId, MessageKind, plain_kind, Boot, bind, bind-is, Step, Line, Load, sum_below, at_id, at_machine, at_pair, Receiver, Part, Says, Routes, Again, Owns, Transmits, Spelled}
use Rattle.dm_law_moves.proofs.Names.{behind, goes_out, lines_of, packet_line, puts, spelled, Point, after, after_line, group_of, untaken, Pair, View, first_told, is_own, own_id, routed_on, view_after, IsNet, IsNetLine, one_view}
use Rattle.dm_law_moves.proofs.Names.{two_views, set_is, set_other, count, weight, weight_to, says_put, eq_is, test_same}
use Rattle.dm_law_moves.proofs.Ends.Parts.{count-append}
use Rattle.dm_law_rule.specs.Rule as rule
use Rattle.dm_law_rule.specs.View as view
use Rattle.dm_law_moves.proofs.Settles.Effects.{calm_to}
use Rattle.dm_law_moves.proofs.Settles.Totals.{here, off_first, off_second}
use Rattle.dm_law_moves.proofs.Settles.Weights.{spike, spike_here, spike_off, sum_gains, sum_le, weight-append}

-- on a machine's pair with itself nothing waits to be taken
abbrev pub Home : (ℕ → ℕ → Pair) → Type 0
Home f = (a : ℕ) → (f a a).taken ≡ length (f a a).ids

set_home : (f : ℕ → ℕ → Pair) (a b : ℕ) (p : Pair) → (a ≡ b → p.taken ≡ length p.ids) → Home f → Home (at_pair f a b p)
set_home f a b p h home x = elim (cases_Bool ((a == x) && (b == x))) [
  | inl same ↦
      let one : a ≡ x = grind (arith, nat_tests) in
      let two : b ≡ x = grind (arith, nat_tests) in
      let is = set_is f a b p x x same in
      ap (λ (q : Pair). q.taken) is ∙ h (one ∙ sym two) ∙ sym (ap (λ (q : Pair). length q.ids) is)
  | inr apart ↦
      let is = set_other f a b p x x apart in
      ap (λ (q : Pair). q.taken) is ∙ home x ∙ sym (ap (λ (q : Pair). length q.ids) is)
]

at_home : (f : ℕ → ℕ → Pair) (a b : ℕ) → Home f → a ≡ b → (f a b).taken ≡ length (f a b).ids
at_home f a b home e = subst (λ (x : ℕ). (f a x).taken ≡ length (f a x).ids) e (home a)

route_home : (f : ℕ → ℕ → Pair) (a b : ℕ) (id : MsgId) → Home f → Home (at_pair f a b (routed_on a b (f a b) id))
route_home f a b id home =
    set_home f a b (routed_on a b (f a b) id)
    (λ e.
    let t : (routed_on a b (f a b) id).taken ≡ (f a b).taken + 1 = ap (λ (c : Bool). if c then (f a b).taken + 1 else (f a b).taken) (test_same a b e) in
    let h = at_home f a b home e in
    let l : length ((f a b).ids ++ id ∷ []) ≡ length (f a b).ids + 1 = length-append (f a b).ids (id ∷ []) in
    omega (arith, t, h, l))
    home

packet_home : (f : ℕ → ℕ → Pair) (a b : ℕ) (p : Pair) → p.taken ≡ (f a b).taken → p.ids ≡ (f a b).ids → Home f → Home (at_pair f a b p)
packet_home f a b p taken ids home = set_home f a b p (λ e. taken ∙ at_home f a b home e ∙ sym (ap length ids)) home

-- a message behind others
drop_more : (f : MsgId → ℕ) (t : ℕ) (xs : List MsgId) (i : MsgId) → weight f (drop t (xs ++ i ∷ [])) ≤ weight f (drop t xs) + f i
drop_more f zero xs i = let e = weight-append f xs (i ∷ []) in omega (arith, e)
drop_more f (suc t) [] i = let e : weight f (drop t []) ≡ 0 = ap (weight f) (drop-nil t) in omega (arith, e)
drop_more f (suc t) (x ∷ xs) i = drop_more f t xs i

drop_past : (f : MsgId → ℕ) (t : ℕ) (xs : List MsgId) → length xs ≤ t → weight f (drop t xs) ≡ 0
drop_past f zero [] h = refl
drop_past f zero (x ∷ xs) h = absurd (omega (arith, h))
drop_past f (suc t) [] h = ap (weight f) (drop-nil (suc t))
drop_past f (suc t) (x ∷ xs) h = drop_past f t xs (omega (arith, h))

routed_weight : (f : MsgId → ℕ) (c : Bool) (p : Pair) (id : MsgId) → (c ≡ true → p.taken ≡ length p.ids) → weight f (drop (if c then p.taken + 1 else p.taken) (p.ids ++ id ∷ [])) ≤ weight f (untaken p) + (if c then 0 else f id)
routed_weight f true p id h =
    let t = h refl in
    let l : length (p.ids ++ id ∷ []) ≡ length p.ids + 1 = length-append p.ids (id ∷ []) in
    let e = drop_past f (p.taken + 1) (p.ids ++ id ∷ []) (omega (arith, t, l)) in
    omega (arith, e)
routed_weight f false p id h = drop_more f p.taken p.ids id

box_gains : (f : MsgId → ℕ) (inbox : ℕ → List MsgId) (b : ℕ) (i : MsgId) (m : ℕ) → weight f (at_machine inbox b (inbox b ++ i ∷ []) m) ≤ weight f (inbox m) + spike b (f i) m
box_gains f inbox b i m = elim (eqb_tells b m) [
  | inl e ↦
      let there : weight f (at_machine inbox b (inbox b ++ i ∷ []) m) ≡ weight f (inbox b ++ i ∷ []) = ap (λ (c : Bool). weight f (if c then inbox b ++ i ∷ [] else inbox m)) e.0 in
      let all = weight-append f (inbox b) (i ∷ []) in
      let was : weight f (inbox b) ≡ weight f (inbox m) = ap (λ (k : ℕ). weight f (inbox k)) e.1 in
      let s = spike_here b (f i) m e.1 in
      omega (arith, there, all, was, s)
  | inr e ↦ let same : weight f (at_machine inbox b (inbox b ++ i ∷ []) m) ≡ weight f (inbox m) = ap (λ (c : Bool). weight f (if c then inbox b ++ i ∷ [] else inbox m)) e.0 in omega (arith, same)
]

box_weight : (f : MsgId → ℕ) (c : Bool) (inbox : ℕ → List MsgId) (b : ℕ) (i : MsgId) (m : ℕ) → weight f ((if c then at_machine inbox b (inbox b ++ i ∷ []) else inbox) m) ≤ weight f (inbox m) + spike b (if c then f i else 0) m
box_weight f true inbox b i m = box_gains f inbox b i m
box_weight f false inbox b i m = omega arith

untaken_gains : (f : MsgId → ℕ) (n : ℕ) (g : ℕ → ℕ → Pair) (a b : ℕ) (p : Pair) (x m : ℕ) → weight f (untaken p) ≤ weight f (untaken (g a b)) + x
    → sum_below (λ j. weight f (untaken (at_pair g a b p j m))) n ≤ sum_below (λ j. weight f (untaken (g j m))) n + spike b x m
untaken_gains f n g a b p x m h = elim (eqb_tells b m) [
  | inl d ↦
      let s = spike_here b x m d.1 in
      let k = sum_gains (λ j. weight f (untaken (g j m))) (λ j. weight f (untaken (at_pair g a b p j m))) n a x (λ j l. elim (eqb_tells a j) [
        | inl e ↦
            let y = spike_here a x j e.1 in
            let z = ap (λ (q : Pair). weight f (untaken q)) (here g a b p j m e.0 d.0) in
            let was : weight f (untaken (g a b)) ≡ weight f (untaken (g j m)) = ap (λ (i : ℕ). weight f (untaken (g i b))) e.1 ∙ ap (λ (i : ℕ). weight f (untaken (g j i))) d.1 in
            omega (arith, h, y, z, was)
        | inr e ↦ let z = ap (λ (q : Pair). weight f (untaken q)) (off_first g a b p j m e.0) in omega (arith, z)
      ]) in
      omega (arith, s, k)
  | inr d ↦
      let k = sum_le (λ j. weight f (untaken (at_pair g a b p j m))) (λ j. weight f (untaken (g j m))) n (λ j l. let z = ap (λ (q : Pair). weight f (untaken q)) (off_second g a b p j m d.0) in omega (arith, z)) in
      omega (arith, k)
]

pub no_spike : (b m : ℕ) → spike b 0 m ≡ 0
no_spike b m = elim (eqb_tells b m) [ inl e ↦ spike_here b 0 m e.1 | inr e ↦ spike_off b 0 m e.1 ]

both_spikes : (c : Bool) (b x m : ℕ) → spike b (if c then x else 0) m + spike b (if c then 0 else x) m ≡ spike b x m
both_spikes true b x m = let e = no_spike b m in omega (arith, e)
both_spikes false b x m = let e = no_spike b m in omega (arith, e)

put_weight : (f : MsgId → ℕ) (n : ℕ) (v : View) (b : ℕ) (id : MsgId) (k : MessageKind) (q : Pid) (m : ℕ) → Home v.pair → weight_to f n (view.after_put v v.acting b id k q) m ≤ weight_to f n v m + spike b (f id) m
put_weight f n v b id k q m home =
    let p = v.pair v.acting b in
    let c = v.acting == b in
    let box = box_weight f c v.inbox b id m in
    let on = routed_weight f c p id (λ e. at_home v.pair v.acting b home (eq_is v.acting b e)) in
    let pairs = untaken_gains f n v.pair v.acting b (routed_on v.acting b p id) (if c then 0 else f id) m on in
    let both = both_spikes c b (f id) m in
    omega (arith, box, pairs, both)

-- what a message's route leaves, with its packet, if it goes out
pub record Puts (n : ℕ) (v w : View) (b : ℕ) (id : MsgId) (k : MessageKind) (q : Pid) : Type 0 where
  pub weight_ : (f : MsgId → ℕ) (m : ℕ) → weight_to f n w m ≤ weight_to f n v m + spike b (f id) m
  pub known : w.known ≡ v.known
  pub told : w.told ≡ at_id v.told id (Some (first_told (v.told id) (record { kind = k; receiver = q; about = v.topic })))
  pub acting : w.acting ≡ v.acting
  pub count : w.count ≡ (if is_own id (v.told id) then at_machine v.count id.from.home (v.count id.from.home + 1) else v.count)
  pub home : Home w.pair

put_alone : (n : ℕ) (v : View) (b : ℕ) (id : MsgId) (k : MessageKind) (q : Pid) → Home v.pair → Puts n v (view_after v (Line.Put v.acting b id k q)) b id k q
put_alone n v b id k q home = record {
  weight_ = λ f m. put_weight f n v b id k q m home;
  known = refl;
  told = refl;
  acting = refl;
  count = refl;
  home = route_home v.pair v.acting b id home;
}

put_packet : (n : ℕ) (v w : View) (b : ℕ) (id : MsgId) (k : MessageKind) (q : Pid) (x y j : ℕ) (l : Load) → Puts n v w b id k q → Puts n v (view_after w (Line.Packet x y j l)) b id k q
put_packet n v w b id k q x y j l h = record {
  weight_ = λ f m. let p = h.weight_ f m in let z = calm_to f n w (Line.Packet x y j l) refl refl m in omega (arith, p, z);
  known = h.known;
  told = h.told;
  acting = h.acting;
  count = h.count;
  home = packet_home w.pair x y (record (w.pair x y) { gone = view.gone_after l (w.pair x y).gone; wire = (w.pair x y).wire ++ record { load = l; delivered = false } ∷ [] }) refl refl h.home;
}

puts_by : (n : ℕ) (pt next : Point) (b : ℕ) (id : MsgId) (k : MessageKind) (q : Pid) (c d : Bool) → Home pt.view.pair
    → after pt (Line.Put pt.view.acting b id k q ∷ (if c then [] else if d then packet_line pt.view pt.view.acting b (Load.Data (length (pt.view.pair pt.view.acting b).ids)) ∷ [] else [])) ≡ Some next → Puts n pt.view next.view b id k q
puts_by n pt next b id k q true d home is = subst (λ (v : View). Puts n pt.view v b id k q) (sym (one_view pt next (Line.Put pt.view.acting b id k q) is)) (put_alone n pt.view b id k q home)
puts_by n pt next b id k q false false home is = subst (λ (v : View). Puts n pt.view v b id k q) (sym (one_view pt next (Line.Put pt.view.acting b id k q) is)) (put_alone n pt.view b id k q home)
puts_by n pt next b id k q false true home is =
    let a = pt.view.acting in
    let put = Line.Put a b id k q in
    let packet = packet_line pt.view a b (Load.Data (length (pt.view.pair a b).ids)) in
    subst (λ (v : View). Puts n pt.view v b id k q) (sym (two_views pt next put packet tt tt is))
    (put_packet n pt.view (view_after pt.view put) b id k q a b (length (pt.view.pair a b).wire) (Load.Data (length (pt.view.pair a b).ids)) (put_alone n pt.view b id k q home))

pub puts_lead : (n : ℕ) (pt next : Point) (b : ℕ) (id : MsgId) (k : MessageKind) (q : Pid) (ls : List Line) → Home pt.view.pair → Some (puts pt.view b id k q) ≡ Some ls → after pt ls ≡ Some next → Puts n pt.view next.view b id k q
puts_lead n pt next b id k q ls home is leads =
    let f : puts pt.view b id k q ≡ ls = cc in
    puts_by n pt next b id k q (pt.view.acting == b) (goes_out (pt.view.pair pt.view.acting b)) home (ap (after pt) f ∙ leads)

-- how many routes a part says, and parts
abbrev pub routes_in : Part → ℕ
routes_in (Says l) = count says_put (l ∷ [])
routes_in (Transmits a b l) = 0
routes_in _ = 1

abbrev pub all_routes : List Part → ℕ
all_routes [] = 0
all_routes (p ∷ ps) = routes_in p + all_routes ps

puts_count : (v : View) (b : ℕ) (id : MsgId) (k : MessageKind) (q : Pid) → count says_put (puts v b id k q) ≡ 1
puts_count v b id k q = by (v.acting == b) (goes_out (v.pair v.acting b))
  where
    by : (c d : Bool) → count says_put (Line.Put v.acting b id k q ∷ (if c then [] else if d then packet_line v v.acting b (Load.Data (length (v.pair v.acting b).ids)) ∷ [] else [])) ≡ 1
    by true d = refl
    by false true = refl
    by false false = refl

one_put : (v : View) (b : ℕ) (id : MsgId) (k : MessageKind) (q : Pid) (ls : List Line) → Some (puts v b id k q) ≡ Some ls → count says_put ls ≡ 1
one_put v b id k q ls is = let f : puts v b id k q ≡ ls = cc in sym (ap (count says_put) f) ∙ puts_count v b id k q

part_count : (pt : Point) (p : Part) (ls : List Line) → lines_of pt p ≡ Some ls → count says_put ls ≡ routes_in p
part_count pt (Says l) ls is = let f : l ∷ [] ≡ ls = cc in sym (ap (count says_put) f)
part_count pt (Routes i) ls is =
    let at = (pt.addresses (Receiver i)).at in
    let (m, there, last) = bind-is (pt.kernel.bag i) (λ m. Some (puts pt.view at i (plain_kind m.what) m.to)) ls is in one_put pt.view at i (plain_kind m.what) m.to ls last
part_count pt (Again i b) ls is = let (t, there, last) = bind-is (pt.view.told i) (λ t. Some (puts pt.view b i t.kind t.receiver)) ls is in one_put pt.view b i t.kind t.receiver ls last
part_count pt (Owns k q b) ls is = one_put pt.view b (own_id pt.view) k q ls is
part_count pt (Transmits a b l) ls is = let f : packet_line pt.view a b l ∷ [] ≡ ls = cc in sym (ap (count says_put) f)

parts_count : (ps : List Part) (pt : Point) (w : Spelled) → spelled pt ps ≡ Some w → count says_put w.lines ≡ all_routes ps
parts_count [] pt w e = let f : record { lines = []; point = pt } ≡ w = cc in sym (ap (λ (x : Spelled). count says_put x.lines) f)
parts_count (p ∷ ps) pt w e =
    let (ls, lines, more) = bind-is (lines_of pt p) (λ (xs : List Line). bind (after pt xs) (λ (q : Point). bind (spelled q ps) (λ (z : Spelled). Some (behind xs z)))) w e in
    let (next, comes, last) = bind-is (after pt ls) (λ (q : Point). bind (spelled q ps) (λ (z : Spelled). Some (behind ls z))) w more in
    let (z, on, is) = bind-is (spelled next ps) (λ (y : Spelled). Some (behind ls y)) w last in
    let f : behind ls z ≡ w = cc in
    let all : count says_put w.lines ≡ count says_put (ls ++ z.lines) = sym (ap (λ (x : Spelled). count says_put x.lines) f) in
    let both = count-append says_put ls z.lines in
    let one = part_count pt p ls lines in
    let rest = parts_count ps next z on in
    omega (arith, all, both, one, rest)

-- so the routes of a group are those of its parts
pub group_count : (b : Boot) (pt : Point) (d : Step) (w : Spelled) (ps : List Part) → group_of b pt d ≡ Some w → rule.outcome b pt d ≡ Some ps → count says_put w.lines ≡ all_routes ps
group_count b pt d w ps e out =
    let (parts, is, more) = bind-is (rule.outcome b pt d) (λ (parts : List Part). bind (after_line pt (Line.Head d)) (λ (begun : Point). bind (spelled begun parts) (λ (w : Spelled). Some (rule.behind (Line.Head d ∷ []) w)))) w e in
    let (start, head, last) = bind-is (after_line pt (Line.Head d)) (λ (begun : Point). bind (spelled begun parts) (λ (w : Spelled). Some (rule.behind (Line.Head d ∷ []) w))) w more in
    let (rest, said, end) = bind-is (spelled start parts) (λ (w : Spelled). Some (rule.behind (Line.Head d ∷ []) w)) w last in
    let f : rule.behind (Line.Head d ∷ []) rest ≡ w = cc in
    let same : parts ≡ ps = cc in
    let all : count says_put (rule.behind (Line.Head d ∷ []) rest).lines ≡ count says_put w.lines = ap (λ (x : Spelled). count says_put x.lines) f in
    let these = parts_count parts start rest said in
    let routes = ap all_routes same in
    omega (arith, all, these, routes)

pub net_count : (ps : List Part) → IsNet ps → all_routes ps ≡ 0
net_count [] h = refl
net_count (Says l ∷ ps) h = let e = net_line l h.0 in let k = net_count ps h.1 in omega (arith, e, k)
  where
    net_line : (l : Line) → IsNetLine l → count says_put (l ∷ []) ≡ 0
    net_line (Line.Taken a b n) h = refl
    net_line (Line.Old a b n) h = refl
    net_line (Line.Early a b n) h = refl
    net_line (Line.Acked a b n) h = refl
    net_line Line.Nothing h = refl
    net_line (Line.Resent m n) h = refl
    net_line l h = absurd h
net_count (Transmits a b l ∷ ps) h = let k = net_count ps h.1 in omega (arith, k)
net_count _ h = absurd h.0
