-- A packet that was never delivered comes: less is left for the wires, and no more of anything else.
use Rattle.dm_law_moves.proofs.Names.{◌≡◌, ◌≢◌, ℕ, zero, suc, ◌+◌, ◌-◌, ◌<◌, ◌≤◌, ◌==◌, Bool, true, false, List, [], ◌∷◌, ◌++◌, drop, length, nat_lt, refl, ap, ◌∙◌, sym, subst, inl, inr, arith, ⊤, if◌then◌else◌, slice_get, slice_set}
use Rattle.dm_law_moves.proofs.Names.{Option, None, Some, eqb_tells, nat_tests, MsgId, Boot, Step, Line, Load, sum_below, at_machine, at_pair, first_undelivered, undelivered, Leads, Part, Says, Transmits, Spelled, packet_line, spelled}
use Rattle.dm_law_moves.proofs.Names.{pair_window, Point, first_point, moved, arrives, comes, group_of, kept_from, less, let_go, at_least, numbers_from, repeats, taking_parts, takes_on, untaken, Pair, SentLoad, View, gone_after, marked}
use Rattle.dm_law_moves.proofs.Names.{oldest, taken_id, view_after, seen, OneKernel, IsNet, IsNetLine, arrives_net, group_is, hushed, pairs_stand_always, onward, says_view, taken_pair, transmits_view, IsLess, Packets, left, load_left}
use Rattle.dm_law_moves.proofs.Names.{one_each, one_let_go, pair_left, weight, weight_of, weight_to, wire_left, less-left, none_some}
use Rattle.dm_law_rule.specs.View as view
use Rattle.dm_law_moves.proofs.Settles.Falls.Delivers.{parts_ids, set_ids}
use Rattle.dm_law_moves.proofs.Settles.Effects.{calm_to}
use Rattle.dm_law_moves.proofs.Settles.Rests.RestsComes.{early, net_pairs, pairs_parts, parts_both, took}
use Rattle.dm_law_moves.proofs.Settles.Rests.RestsPairs.{acknowledged, repeated}
use Rattle.dm_law_moves.proofs.Settles.Totals.{here, off_first, off_second, set_gains, set_keeps, set_loses, total}
use Rattle.dm_law_moves.proofs.Settles.Falls.TurnFalls.{numbers_stay, same_told}
use Rattle.dm_law_moves.proofs.Settles.Weights.{spike, spike_here, spike_off, sum_le, sum_moves, weight-append}
use Rattle.dm_law_moves.proofs.Settles.Wires.{new_packet}

-- the packets of a wire
put_left : (ss : List SentLoad) (l : Load) → wire_left (ss ++ new_packet l ∷ []) ≡ wire_left ss + load_left l
put_left [] l = omega arith
put_left (s ∷ ss) l = let h = put_left ss l in omega (arith, h)

record Found (ss : List SentLoad) (j k : ℕ) : Type 0 where
  at : ℕ
  packet : SentLoad
  is : k ≡ j + at
  there : slice_get ss at ≡ Some packet
  new : packet.delivered ≡ false

found_by : (s : SentLoad) (ss : List SentLoad) (j k : ℕ) (b : Bool) → s.delivered ≡ b → (if b then first_undelivered (j + 1) ss else Some j) ≡ Some k → (first_undelivered (j + 1) ss ≡ Some k → Found ss (j + 1) k) → Found (s ∷ ss) j k
found_by s ss j k true d e later = let h = later e in record { at = suc h.at; packet = h.packet; is = let i = h.is in omega (arith, i); there = h.there; new = h.new }
found_by s ss j k false d e later = let f : j ≡ k = cc in record { at = 0; packet = s; is = omega (arith, f); there = refl; new = d }

found : (ss : List SentLoad) (j k : ℕ) → first_undelivered j ss ≡ Some k → Found ss j k
found [] j k e = none_some k e
found (s ∷ ss) j k e = found_by s ss j k s.delivered refl e (λ f. found ss (j + 1) k f)

mark_left : (ss : List SentLoad) (k : ℕ) (s : SentLoad) → slice_get ss k ≡ Some s → s.delivered ≡ false → wire_left (slice_set ss k (record s { delivered = true })) + load_left s.load ≡ wire_left ss
mark_left [] k s e d = none_some s e
mark_left (t ∷ ss) zero s e d =
    let f : t ≡ s = cc in
    let all : wire_left (t ∷ ss) ≡ load_left s.load + wire_left ss = ap (λ (x : SentLoad). wire_left (x ∷ ss)) f ∙ ap (λ (b : Bool). (if b then 0 else load_left s.load) + wire_left ss) d in
    omega (arith, all)
mark_left (t ∷ ss) (suc k) s e d = let h = mark_left ss k s e d in omega (arith, h)

-- what each change of a pair leaves for its wire
marked_left : (p : Pair) (k : ℕ) (s : SentLoad) → slice_get p.wire k ≡ Some s → s.delivered ≡ false → pair_left (marked p k) + load_left s.load ≤ pair_left p
marked_left p k s e d =
    let w : wire_left (marked p k).wire ≡ wire_left (slice_set p.wire k (record s { delivered = true })) = ap (λ (o : Option SentLoad). wire_left (view.marked_at p.wire k o)) e in
    let h = mark_left p.wire k s e d in
    omega (arith, w, h)

ack_left : (p : Pair) (t : ℕ) → pair_left (repeated (Load.Ack t) p) ≤ pair_left p + 1
ack_left p t = let h = put_left p.wire (Load.Ack t) in omega (arith, h)

out_left : (p : Pair) → p.gone < length p.ids → pair_left (repeated (Load.Data p.gone) p) ≤ pair_left p
out_left p h =
    let w = put_left p.wire (Load.Data p.gone) in
    let g : gone_after (Load.Data p.gone) p.gone ≡ p.gone + 1 = grind (arith, nat_tests) in
    omega (arith, h, w, g)

-- the pairs behind the parts of a delivery
ack_total : (n : ℕ) (f : ℕ → ℕ → Pair) (b a t : ℕ) → total pair_left n (at_pair f b a (repeated (Load.Ack t) (f b a))) ≤ total pair_left n f + 1
ack_total n f b a t = set_gains pair_left n f b a (repeated (Load.Ack t) (f b a)) 1 (ack_left (f b a) t)

takes_total : (n a b : ℕ) (ns : List ℕ) (f : ℕ → ℕ → Pair) → total pair_left n (pairs_parts f (taking_parts a b ns)) ≤ total pair_left n f
takes_total n a b [] f = omega arith
takes_total n a b (k ∷ ns) f =
    let g = at_pair f a b (took k (f a b)) in
    let first = set_keeps pair_left n f a b (took k (f a b)) (omega arith) in
    let rest = takes_total n a b ns g in
    omega (arith, first, rest)

repeats_total : (n b a k g : ℕ) (f : ℕ → ℕ → Pair) → (f b a).gone ≡ g → g + k ≤ length (f b a).ids → total pair_left n (pairs_parts f (repeats b a (numbers_from g k))) ≤ total pair_left n f
repeats_total n b a zero g f at most = omega arith
repeats_total n b a (suc k) g f at most =
    let p = repeated (Load.Data g) (f b a) in
    let out : pair_left p ≤ pair_left (f b a) = subst (λ (j : ℕ). pair_left (repeated (Load.Data j) (f b a)) ≤ pair_left (f b a)) at (out_left (f b a) (omega (arith, at, most))) in
    let first = set_keeps pair_left n f b a p out in
    let same : at_pair f b a p b a ≡ p = here f b a p b a (let t : (b == b) ≡ true = grind (arith, nat_tests) in t) (let t : (a == a) ≡ true = grind (arith, nat_tests) in t) in
    let next : gone_after (Load.Data g) (f b a).gone ≡ g + 1 = grind (arith, nat_tests) in
    let rest = repeats_total n b a k (g + 1) (at_pair f b a p) (ap (λ (q : Pair). q.gone) same ∙ next) (let ids = ap (λ (q : Pair). length q.ids) same in omega (arith, most, ids)) in
    omega (arith, first, rest)

-- a data packet: no more than its acknowledgement
data_total : (n : ℕ) (g : ℕ → ℕ → Pair) (a b k t : ℕ) (p : Pair) (old ahead : Bool)
    → total pair_left n (pairs_parts g (if old then Says (Line.Old a b k) ∷ Transmits b a (Load.Ack t) ∷ [] else if ahead then Says (Line.Early a b k) ∷ Transmits b a (Load.Ack t) ∷ [] else takes_on a b k (kept_from p.kept (k + 1) pair_window))) ≤ total pair_left n g + 1
data_total n g a b k t p true ahead = ack_total n g b a t
data_total n g a b k t p false true =
    let h = at_pair g a b (early k (g a b)) in
    let first = set_keeps pair_left n g a b (early k (g a b)) (omega arith) in
    let last = ack_total n h b a t in
    omega (arith, first, last)
data_total n g a b k t p false false =
    let others = kept_from p.kept (k + 1) pair_window in
    let last = Transmits b a (Load.Ack (k + 1 + length others)) ∷ [] in
    let mid = pairs_parts g (taking_parts a b (k ∷ others)) in
    let both : total pair_left n (pairs_parts g (taking_parts a b (k ∷ others) ++ last)) ≡ total pair_left n (pairs_parts mid last) = ap (total pair_left n) (parts_both g (taking_parts a b (k ∷ others)) last) in
    let first = takes_total n a b (k ∷ others) g in
    let ack = ack_total n mid b a (k + 1 + length others) in
    omega (arith, both, first, ack)

-- an acknowledgement: what goes out then costs less than it did
ack_comes : (n : ℕ) (g : ℕ → ℕ → Pair) (a b k top : ℕ) (q : Pair) → g b a ≡ q → q.gone ≤ length q.ids → total pair_left n (pairs_parts g (Says (Line.Acked a b k) ∷ repeats b a (let_go q top))) ≤ total pair_left n g
ack_comes n g a b k top q is stands =
    let p = acknowledged k (g b a) in
    let mid = at_pair g b a p in
    let first = set_keeps pair_left n g b a p (omega arith) in
    let same : mid b a ≡ p = here g b a p b a (let t : (b == b) ≡ true = grind (arith, nat_tests) in t) (let t : (a == a) ≡ true = grind (arith, nat_tests) in t) in
    let gone : (mid b a).gone ≡ q.gone = ap (λ (x : Pair). x.gone) same ∙ ap (λ (x : Pair). x.gone) is in
    let ids : length (mid b a).ids ≡ length q.ids = ap (λ (x : Pair). length x.ids) same ∙ ap (λ (x : Pair). length x.ids) is in
    let most = less-left (length q.ids - q.gone) (top + pair_window - q.gone) in
    let rest = repeats_total n b a (less (length q.ids - q.gone) (top + pair_window - q.gone)) q.gone mid gone (omega (arith, most, stands, ids)) in
    omega (arith, first, rest)

comes_total : (n : ℕ) (f : ℕ → ℕ → Pair) (a b k : ℕ) (s : SentLoad) (l : Load) → a < n → b < n → (a == b) ≡ false → slice_get (f a b).wire k ≡ Some s → s.delivered ≡ false → s.load ≡ l → (f b a).gone ≤ length (f b a).ids
    → total pair_left n (pairs_parts (at_pair f a b (marked (f a b) k)) (comes a b (f a b) (f b a) l)) < total pair_left n f
comes_total n f a b k s (Load.Data j) from to apart there new carries stands =
    let g = at_pair f a b (marked (f a b) k) in
    let lost = set_loses pair_left n f a b (marked (f a b) k) (load_left s.load) from to (marked_left (f a b) k s there new) in
    let two : load_left s.load ≡ 2 = ap load_left carries in
    let more = data_total n g a b j (f a b).taken (f a b) (nat_lt j (f a b).taken) (nat_lt (f a b).taken j) in
    omega (arith, lost, two, more)
comes_total n f a b k s (Load.Ack j) from to apart there new carries stands =
    let g = at_pair f a b (marked (f a b) k) in
    let lost = set_loses pair_left n f a b (marked (f a b) k) (load_left s.load) from to (marked_left (f a b) k s there new) in
    let one : load_left s.load ≡ 1 = ap load_left carries in
    let back : g b a ≡ f b a = off_first f a b (marked (f a b) k) b a apart in
    let more_ = ack_comes n g a b j (at_least (f b a).acked j) (f b a) back stands in
    omega (arith, lost, one, more_)

-- a message that is taken goes from its pair to the inbox
abbrev pub list_of : Option MsgId → List MsgId
list_of None = []
list_of (Some i) = i ∷ []

drop_one : (f : MsgId → ℕ) (t : ℕ) (xs : List MsgId) → weight f (drop (suc t) xs) + weight f (list_of (slice_get xs t)) ≡ weight f (drop t xs)
drop_one f zero [] = refl
drop_one f zero (x ∷ xs) = omega arith
drop_one f (suc t) [] = refl
drop_one f (suc t) (x ∷ xs) = drop_one f t xs

took_weight : (f : MsgId → ℕ) (k : ℕ) (p : Pair) → weight f (untaken (took k p)) + weight f (list_of (oldest p)) ≤ weight f (untaken p)
took_weight f k p =
    let h = drop_one f p.taken p.ids in
    let e : weight f (drop (p.taken + 1) p.ids) ≡ weight f (drop (suc p.taken) p.ids) = ap (λ (t : ℕ). weight f (drop t p.ids)) (let z : p.taken + 1 ≡ suc p.taken = omega arith in z) in
    omega (arith, h, e)

pub inbox_gains : (f : MsgId → ℕ) (v : View) (b : ℕ) (o : Option MsgId) (m : ℕ) → weight f ((taken_id v b o).inbox m) ≤ weight f (v.inbox m) + spike b (weight f (list_of o)) m
inbox_gains f v b None m = omega arith
inbox_gains f v b (Some i) m = elim (eqb_tells b m) [
  | inl e ↦
      let here_ : weight f (at_machine v.inbox b (v.inbox b ++ i ∷ []) m) ≡ weight f (v.inbox b ++ i ∷ []) = ap (λ (c : Bool). weight f (if c then v.inbox b ++ i ∷ [] else v.inbox m)) e.0 in
      let all = weight-append f (v.inbox b) (i ∷ []) in
      let was : weight f (v.inbox b) ≡ weight f (v.inbox m) = ap (λ (k : ℕ). weight f (v.inbox k)) e.1 in
      let s = spike_here b (weight f (i ∷ [])) m e.1 in
      omega (arith, here_, all, was, s)
  | inr e ↦ let same : weight f (at_machine v.inbox b (v.inbox b ++ i ∷ []) m) ≡ weight f (v.inbox m) = ap (λ (c : Bool). weight f (if c then v.inbox b ++ i ∷ [] else v.inbox m)) e.0 in omega (arith, same)
]

untaken_loses : (f : MsgId → ℕ) (n : ℕ) (g : ℕ → ℕ → Pair) (a b : ℕ) (p : Pair) (x m : ℕ) → a < n → weight f (untaken p) + x ≤ weight f (untaken (g a b))
    → sum_below (λ j. weight f (untaken (at_pair g a b p j m))) n + spike b x m ≤ sum_below (λ j. weight f (untaken (g j m))) n
untaken_loses f n g a b p x m small h = elim (eqb_tells b m) [
  | inl d ↦
      let s = spike_here b x m d.1 in
      let k = sum_moves (λ j. weight f (untaken (g j m))) (λ j. weight f (untaken (at_pair g a b p j m))) n a x a 0 small (λ j l. elim (eqb_tells a j) [
        | inl e ↦
            let y = spike_here a x j e.1 in
            let z = ap (λ (q : Pair). weight f (untaken q)) (here g a b p j m e.0 d.0) in
            let was : weight f (untaken (g a b)) ≡ weight f (untaken (g j m)) = ap (λ (i : ℕ). weight f (untaken (g i b))) e.1 ∙ ap (λ (i : ℕ). weight f (untaken (g j i))) d.1 in
            omega (arith, h, y, z, was)
        | inr e ↦ let y = spike_off a x j e.1 in let z = ap (λ (q : Pair). weight f (untaken q)) (off_first g a b p j m e.0) in omega (arith, y, z)
      ]) in
      omega (arith, s, k)
  | inr d ↦
      let s = spike_off b x m d.1 in
      let k = sum_le (λ j. weight f (untaken (at_pair g a b p j m))) (λ j. weight f (untaken (g j m))) n (λ j l. let z = ap (λ (q : Pair). weight f (untaken q)) (off_second g a b p j m d.0) in omega (arith, z)) in
      omega (arith, s, k)
]

taken_to : (f : MsgId → ℕ) (n : ℕ) (v : View) (a b k : ℕ) → a < n → (m : ℕ) → weight_to f n (view_after v (Line.Taken a b k)) m ≤ weight_to f n v m
taken_to f n v a b k small m =
    let p = took k (v.pair a b) in
    let mid = view.with_pair v a b p in
    let o = oldest (v.pair a b) in
    let box = inbox_gains f mid b o m in
    let pairs : sum_below (λ j. weight f (untaken ((taken_id mid b o).pair j m))) n ≡ sum_below (λ j. weight f (untaken (mid.pair j m))) n =
    ap (λ (g : ℕ → ℕ → Pair). sum_below (λ j. weight f (untaken (g j m))) n) (taken_pair mid b o) in
    let lost = untaken_loses f n v.pair a b p (weight f (list_of o)) m small (took_weight f k (v.pair a b)) in
    omega (arith, box, pairs, lost)

-- no more is on its way to any machine behind the parts of a delivery, nothing is told, and machines know what they knew
pub record Keeps (n : ℕ) (v w : View) : Type 0 where
  pub weight_ : (f : MsgId → ℕ) (m : ℕ) → weight_to f n w m ≤ weight_to f n v m
  pub told : w.told ≡ v.told
  pub known : w.known ≡ v.known

keeps_on : (n : ℕ) (u v w : View) → Keeps n u v → Keeps n v w → Keeps n u w
keeps_on n u v w x y = record { weight_ = λ f m. let p = x.weight_ f m in let q = y.weight_ f m in omega (arith, p, q); told = y.told ∙ x.told; known = y.known ∙ x.known }

keeps_all : (n : ℕ) (v : View) → Keeps n v v
keeps_all n v = record { weight_ = λ f m. omega arith; told = refl; known = refl }

pub kept_all : (f : MsgId → ℕ) (n : ℕ) (v w : View) → Keeps n v w → weight_of f n w ≤ weight_of f n v
kept_all f n v w h = sum_le (weight_to f n w) (weight_to f n v) n (λ m l. h.weight_ f m)

taken_known : (v : View) (b : ℕ) (o : Option MsgId) → (taken_id v b o).known ≡ v.known
taken_known v b None = refl
taken_known v b (Some i) = refl

-- what is taken is taken of a pair of machines that are there
abbrev TakesIn : ℕ → Part → Type 0
TakesIn n (Says (Line.Taken a b k)) = a < n
TakesIn n p = ⊤

abbrev AllTakeIn : ℕ → List Part → Type 0
AllTakeIn n [] = ⊤
AllTakeIn n (p ∷ ps) = TakesIn n p × AllTakeIn n ps

line_keeps : (n : ℕ) (s : OneKernel) (v : View) (l : Line) → IsNetLine l → TakesIn n (Says l) → Keeps n v (seen s v l)
line_keeps n s v (Line.Taken a b k) net small = record {
  weight_ = λ f m. taken_to f n v a b k small m;
  told = (hushed v (Line.Taken a b k) refl).told;
  known = taken_known (view.with_pair v a b (took k (v.pair a b))) b (oldest (v.pair a b));
}
line_keeps n s v (Line.Old a b k) net small = keeps_all n v
line_keeps n s v (Line.Early a b k) net small = record { weight_ = λ f m. calm_to f n v (Line.Early a b k) refl refl m; told = refl; known = refl }
line_keeps n s v (Line.Acked a b k) net small = record { weight_ = λ f m. calm_to f n v (Line.Acked a b k) refl refl m; told = refl; known = refl }
line_keeps n s v Line.Nothing net small = keeps_all n v
line_keeps n s v (Line.Resent m k) net small = keeps_all n v
line_keeps n s v l net small = absurd net

parts_keep : (n : ℕ) (ps : List Part) (pt : Point) (w : Spelled) → IsNet ps → AllTakeIn n ps → spelled pt ps ≡ Some w → Keeps n pt.view w.point.view
parts_keep n [] pt w net small e = let f : record { lines = []; point = pt } ≡ w = cc in subst (λ (x : Spelled). Keeps n pt.view x.point.view) f (keeps_all n pt.view)
parts_keep n (Says l ∷ ps) pt w net small e =
    let o = onward pt (Says l) ps w e in
    let first : Keeps n pt.view o.next.view = subst (Keeps n pt.view) (sym (says_view pt l ps w o)) (line_keeps n pt.kernel pt.view l net.0 small.0) in
    subst (λ (q : Point). Keeps n pt.view q.view) o.end (keeps_on n pt.view o.next.view o.rest.point.view first (parts_keep n ps o.next o.rest net.1 small.1 o.on))
parts_keep n (Transmits a b l ∷ ps) pt w net small e =
    let o = onward pt (Transmits a b l) ps w e in
    let line_ = packet_line pt.view a b l in
    let packet : Keeps n pt.view (view_after pt.view line_) = record { weight_ = λ f m. calm_to f n pt.view line_ refl refl m; told = refl; known = refl } in
    let first : Keeps n pt.view o.next.view = subst (Keeps n pt.view) (sym (transmits_view pt a b l ps w o)) packet in
    subst (λ (q : Point). Keeps n pt.view q.view) o.end (keeps_on n pt.view o.next.view o.rest.point.view first (parts_keep n ps o.next o.rest net.1 small.1 o.on))
parts_keep n _ pt w net small e = absurd net.0

takes_in : (n a b : ℕ) (ns : List ℕ) (ps : List Part) → a < n → AllTakeIn n ps → AllTakeIn n (taking_parts a b ns ++ ps)
takes_in n a b [] ps small h = h
takes_in n a b (k ∷ ns) ps small h = (small, takes_in n a b ns ps small h)

repeats_in : (n a b : ℕ) (ns : List ℕ) → AllTakeIn n (repeats a b ns)
repeats_in n a b [] = tt
repeats_in n a b (k ∷ ns) = (tt, repeats_in n a b ns)

data_in : (n a b k t : ℕ) (others : List ℕ) (old ahead : Bool) → a < n
    → AllTakeIn n (if old then Says (Line.Old a b k) ∷ Transmits b a (Load.Ack t) ∷ [] else if ahead then Says (Line.Early a b k) ∷ Transmits b a (Load.Ack t) ∷ [] else takes_on a b k others)
data_in n a b k t others true ahead small = (tt, (tt, tt))
data_in n a b k t others false true small = (tt, (tt, tt))
data_in n a b k t others false false small = takes_in n a b (k ∷ others) (Transmits b a (Load.Ack (k + 1 + length others)) ∷ []) small (tt, tt)

comes_in_ : (n a b : ℕ) (p q : Pair) (l : Load) → a < n → AllTakeIn n (comes a b p q l)
comes_in_ n a b p q (Load.Data k) small = data_in n a b k p.taken (kept_from p.kept (k + 1) pair_window) (nat_lt k p.taken) (nat_lt p.taken k) small
comes_in_ n a b p q (Load.Ack k) small = (tt, repeats_in n b a (let_go q (at_least q.acked k)))

arrives_in : (n a b : ℕ) (p q : Pair) (o : Option SentLoad) → a < n → AllTakeIn n (arrives a b p q o)
arrives_in n a b p q None small = (tt, tt)
arrives_in n a b p q (Some s) small = comes_in_ n a b p q s.load small

-- a delivery of a packet that was never delivered
head_keeps : (n : ℕ) (v : View) (a b k : ℕ) → Keeps n v (view.after_head v (Step.Deliver a b k))
head_keeps n v a b k = record { weight_ = λ f m. calm_to f n v (Line.Head (Step.Deliver a b k)) refl refl m; told = refl; known = refl }

pub deliver_keeps : (b : Boot) (pt : Point) (n a c k : ℕ) (w : Spelled) → a < n → group_of b pt (Step.Deliver a c k) ≡ Some w → Keeps n pt.view w.point.view
deliver_keeps b pt n a c k w from e =
    let v = pt.view in
    let g = group_is b pt (Step.Deliver a c k) w e in
    let start = moved pt (Line.Head (Step.Deliver a c k)) pt.kernel in
    let parts = arrives a c (v.pair a c) (v.pair c a) (slice_get (v.pair a c).wire k) in
    let are : parts ≡ g.parts = let t = g.is in cc in
    let net = arrives_net a c (v.pair a c) (v.pair c a) (slice_get (v.pair a c).wire k) in
    let said : spelled start parts ≡ Some g.rest = ap (spelled start) are ∙ g.said in
    let kept : Keeps n start.view g.rest.point.view = parts_keep n parts start g.rest net (arrives_in n a c (v.pair a c) (v.pair c a) (slice_get (v.pair a c).wire k) from) said in
    subst (λ (q : Point). Keeps n v q.view) g.point (keeps_on n v start.view g.rest.point.view (head_keeps n v a c k) kept)

pub deliver_falls : (b : Boot) (es : List Step) (pt : Point) (a c k : ℕ) (w : Spelled) (numbers : ℕ) → Leads b (first_point b) es pt → a < pt.kernel.machines → c < pt.kernel.machines → a ≢ c → undelivered pt.view a c ≡ Some k
    → group_of b pt (Step.Deliver a c k) ≡ Some w → IsLess (left numbers pt.kernel.machines w.point.view) (left numbers pt.kernel.machines pt.view)
deliver_falls b es pt a c k w numbers leads from to apart new e =
    let n = pt.kernel.machines in
    let v = pt.view in
    let g = group_is b pt (Step.Deliver a c k) w e in
    let start = moved pt (Line.Head (Step.Deliver a c k)) pt.kernel in
    let parts = arrives a c (v.pair a c) (v.pair c a) (slice_get (v.pair a c).wire k) in
    let are : parts ≡ g.parts = let t = g.is in cc in
    let net = arrives_net a c (v.pair a c) (v.pair c a) (slice_get (v.pair a c).wire k) in
    let said : spelled start parts ≡ Some g.rest = ap (spelled start) are ∙ g.said in
    let keeps : Keeps n v w.point.view = deliver_keeps b pt n a c k w from e in
    let pairs : w.point.view.pair ≡ pairs_parts (at_pair v.pair a c (marked (v.pair a c) k)) parts = ap (λ (q : Point). q.view.pair) (sym g.point) ∙ net_pairs parts start g.rest net said in
    let f = found (v.pair a c).wire 0 k new in
    let there : slice_get (v.pair a c).wire k ≡ Some f.packet = ap (slice_get (v.pair a c).wire) (let i = f.is in let z : k ≡ f.at = omega (arith, i) in z) ∙ f.there in
    let is : parts ≡ comes a c (v.pair a c) (v.pair c a) f.packet.load = ap (arrives a c (v.pair a c) (v.pair c a)) there in
    let wires = comes_total n v.pair a c k f.packet f.packet.load from to (elim (eqb_tells a c) [ inl same ↦ absurd (apart same.1) | inr off ↦ off.0 ]) there f.new refl ((pairs_stand_always b es pt c a leads (λ same. apart (sym same))).0.gone) in
    let packets : total pair_left n w.point.view.pair ≡ total pair_left n (pairs_parts (at_pair v.pair a c (marked (v.pair a c) k)) (comes a c (v.pair a c) (v.pair c a) f.packet.load)) =
    ap (total pair_left n) (pairs ∙ ap (pairs_parts (at_pair v.pair a c (marked (v.pair a c) k))) is) in
    let ids = λ (x y : ℕ). ap (λ (f : ℕ → ℕ → Pair). length (f x y).ids) pairs ∙ ap length (parts_ids parts (at_pair v.pair a c (marked (v.pair a c) k)) x y ∙ set_ids v.pair a c (marked (v.pair a c) k) x y refl) in
    let most = numbers_stay numbers n v w.point.view (λ x y. let e = ids x y in omega (arith, e)) in
    let releases = kept_all (one_let_go v) n v w.point.view keeps in
    let told : weight_of (one_let_go w.point.view) n w.point.view ≡ weight_of (one_let_go v) n w.point.view = same_told n v w.point.view keeps.told in
    Packets most (omega (arith, releases, told)) (kept_all one_each n v w.point.view keeps) (omega (arith, wires, packets))
