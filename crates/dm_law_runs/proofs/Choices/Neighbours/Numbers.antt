-- The numbers of the packets that a directive puts: from the one behind those that were on the wire before, without a gap, to the last one there.
use Rattle.dm_law_mirror.proofs.Names.{◌≡◌, ℕ, zero, suc, ◌+◌, ◌<◌, ◌≤◌, ◌==◌, ◌&&◌, ◌||◌, Bool, true, false, if◌then◌else◌, List, [], ◌∷◌, ◌++◌, length, refl, ap, ◌∙◌, sym, subst, inl, inr, arith, nat_tests, ⊤, slice_get, not, filter, Option, None, Some}
use Rattle.std.specs.Prelude.{slice_set}
use Rattle.dm_law_mirror.proofs.Names.{cases_Bool, false≢true, bind, bind-is, eqb-true, length-append, Pid, MsgId, MessageKind, plain_kind, Boot, Step, Line, View, Pair, view_after, own_id, Receiver, Point, moved, after_line, after}
use Rattle.dm_law_mirror.proofs.Names.{Says, Routes, Again, Owns, Transmits, Spelled, puts, packet_line, goes_out, spelled, lines_of, IsNet, IsNetLine, AllFit, turns_fit, migrates_fit, calls_off_fit, resends_net, arrives_net, pair_same, taken_pair, group_of}
use Rattle.std.specs.List.{cons_option, list_any}
use Rattle.std.proofs.lemmas.List.Elements.{filter_map-append}
use Rattle.std.proofs.lemmas.List.Folds.{list_any-append}
use Rattle.dm_line.specs.declared.line.Load.{Load}
use Rattle.dm_law_rule.proofs.Names.{Part, calls_off, migrates}
use Rattle.dm_law_rule.proofs.Lines.{parts}
use Rattle.dm_law_rule.proofs.Outcomes.{by_group, by_parts}
use Rattle.dm_law_rule.proofs.Pairs.Lines.{line_view, one_view, touches}
use Rattle.dm_law_rule.specs.Rule as rule
use Rattle.dm_law_rule.specs.View as view
use Rattle.dm_explore.specs.declared.past.Put.{Put}
use Rattle.dm_explore.specs.Order.{is_put}
use Rattle.dm_explore.specs.Past.{put_in, puts_in}
use Rattle.std.proofs.lemmas.Bool.{cases_lt}

-- how many packets were put on a wire
abbrev pub long : View → ℕ → ℕ → ℕ
long v a c = length (v.pair a c).wire

abbrev pub says_put : List Line → ℕ → ℕ → ℕ → Bool
says_put ls a c k = list_any (is_put a c k) (puts_in ls)

pub record Numbered (v : View) (ls : List Line) (w : View) : Type 0 where
  pub grows : (a c : ℕ) → long v a c ≤ long w a c
  pub below : (a c k : ℕ) → says_put ls a c k ≡ true → k < long w a c
  pub each : (a c k : ℕ) → long v a c ≤ k → k < long w a c → says_put ls a c k ≡ true

pub numbered_same : (v w : View) (ls : List Line) → puts_in ls ≡ [] → ((a c : ℕ) → long w a c ≡ long v a c) → Numbered v ls w
numbered_same v w ls none same = record {
  grows = λ a c. omega (arith, same a c);
  below = λ a c k is. absurd (false≢true (sym (ap (list_any (is_put a c k)) none) ∙ is));
  each = λ a c k least less. absurd (omega (arith, same a c, least, less));
}

says_both : (xs ys : List Line) (a c k : ℕ) → says_put (xs ++ ys) a c k ≡ (says_put xs a c k || says_put ys a c k)
says_both xs ys a c k = ap (list_any (is_put a c k)) (filter_map-append put_in xs ys) ∙ list_any-append (is_put a c k) (puts_in xs) (puts_in ys)

or_below : (c d : Bool) (P : Type 0) → (c || d) ≡ true → (c ≡ true → P) → (d ≡ true → P) → P
or_below true d P e f g = f refl
or_below false d P e f g = g e

or_first : (c d : Bool) → c ≡ true → (c || d) ≡ true
or_first c d e = grind (arith, nat_tests)

or_last : (c d : Bool) → d ≡ true → (c || d) ≡ true
or_last true d e = refl
or_last false d e = e

pub numbered_then : (u v w : View) (xs ys : List Line) → Numbered u xs v → Numbered v ys w → Numbered u (xs ++ ys) w
numbered_then u v w xs ys h k = record {
  grows = λ a c. (let f = h.grows a c in let g = k.grows a c in omega (arith, f, g));
  below = λ a c j is. or_below (says_put xs a c j) (says_put ys a c j) (j < long w a c) (sym (says_both xs ys a c j) ∙ is) (λ e. (let f = h.below a c j e in let g = k.grows a c in omega (arith, f, g))) (k.below a c j);
  each = λ a c j least less. says_both xs ys a c j ∙ elim (cases_lt j (long v a c)) [
    | inl before ↦ or_first (says_put xs a c j) (says_put ys a c j) (h.each a c j least before)
    | inr behind_ ↦ or_last (says_put xs a c j) (says_put ys a c j) (k.each a c j behind_ less)
  ];
}

-- a line that is no packet, and leaves the wires
pub record Spares (l : Line) : Type 0 where
  pub none : put_in l ≡ None
  pub wires : (v : View) (a c : ℕ) → long (view_after v l) a c ≡ long v a c

quiet_none : (l : Line) → touches l ≡ false → put_in l ≡ None
quiet_none (Line.Packet a c k l) e = cc
quiet_none (Line.Head d) e = refl
quiet_none l e = refl

quiet_spares : (l : Line) → touches l ≡ false → Spares l
quiet_spares l e = record { none = quiet_none l e; wires = λ v a c. ap (λ (f : ℕ → ℕ → Pair). length (f a c).wire) (pair_same v l e) }

-- a pair is set to one with the wire that it had
wire_if : (f : ℕ → ℕ → Pair) (x y : ℕ) (p : Pair) (a c : ℕ) (t : Bool) → ((x == a) && (y == c)) ≡ t → p.wire ≡ (f x y).wire → length (if t then p else f a c).wire ≡ length (f a c).wire
wire_if f x y p a c true e same =
    let k = parts (x == a) (y == c) e in
    ap length same ∙ (λ i. length (f (eqb-true x a k.0 i) (eqb-true y c k.1 i)).wire)
wire_if f x y p a c false e same = refl

net_spares : (l : Line) → IsNetLine l → Spares l
net_spares (Line.Taken x y n) h = record { none = refl; wires = λ v a c. taken_wires v a c }
  where
    taken_wires : (v : View) (a c : ℕ) → long (view_after v (Line.Taken x y n)) a c ≡ long v a c
    taken_wires v a c =
        let p = record (v.pair x y) { taken = (v.pair x y).taken + 1; kept = filter (λ k. not (k == n)) (v.pair x y).kept } in
        ap (λ (f : ℕ → ℕ → Pair). length (f a c).wire) (taken_pair (view.with_pair v x y p) y (view.oldest (v.pair x y))) ∙ wire_if v.pair x y p a c ((x == a) && (y == c)) refl refl
net_spares (Line.Old x y n) h = record { none = refl; wires = λ v a c. refl }
net_spares (Line.Early x y n) h =
    record { none = refl; wires = λ v a c. wire_if v.pair x y (record (v.pair x y) { kept = n ∷ filter (λ k. not (k == n)) (v.pair x y).kept }) a c ((x == a) && (y == c)) refl refl }
net_spares (Line.Acked x y n) h =
    record { none = refl; wires = λ v a c. wire_if v.pair y x (record (v.pair y x) { acked = view.at_least (v.pair y x).acked n }) a c ((y == a) && (x == c)) refl refl }
net_spares Line.Nothing h = record { none = refl; wires = λ v a c. refl }
net_spares (Line.Resent m n) h = record { none = refl; wires = λ v a c. refl }
net_spares _ h = absurd h

put_spares : (a c : ℕ) (i : MsgId) (k : MessageKind) (q : Pid) → Spares (Line.Put a c i k q)
put_spares x y i k q = record { none = refl; wires = λ v a c. wire_if v.pair x y (view.routed_on x y (v.pair x y) i) a c ((x == a) && (y == c)) refl refl }

set_length : {X : Type 0} (xs : List X) (k : ℕ) (x : X) → length (slice_set xs k x) ≡ length xs
set_length [] k x = refl
set_length (y ∷ xs) zero x = refl
set_length (y ∷ xs) (suc k) x = let f = set_length xs k x in grind (arith, f)

mark_length : (ws : List view.SentLoad) (k : ℕ) (o : Option view.SentLoad) → length (view.marked_at ws k o) ≡ length ws
mark_length ws k None = refl
mark_length ws k (Some s) = set_length ws k (record s { delivered = true })

length_if : (f : ℕ → ℕ → Pair) (x y : ℕ) (p : Pair) (a c : ℕ) (t : Bool) → ((x == a) && (y == c)) ≡ t → length p.wire ≡ length (f x y).wire → length (if t then p else f a c).wire ≡ length (f a c).wire
length_if f x y p a c true e same = let k = parts (x == a) (y == c) e in same ∙ (λ i. length (f (eqb-true x a k.0 i) (eqb-true y c k.1 i)).wire)
length_if f x y p a c false e same = refl

head_wires : (d : Step) (v : View) (a c : ℕ) → long (view_after v (Line.Head d)) a c ≡ long v a c
head_wires (Step.Deliver x y k) v a c = length_if v.pair x y (view.marked (v.pair x y) k) a c ((x == a) && (y == c)) refl (mark_length (v.pair x y).wire k (slice_get (v.pair x y).wire k))
head_wires (Step.Turn m) v a c = refl
head_wires (Step.Tick m) v a c = refl
head_wires (Step.Migrate p m) v a c = refl
head_wires (Step.CallOff p m) v a c = refl

head_spares : (d : Step) → Spares (Line.Head d)
head_spares d = record { none = refl; wires = head_wires d }

-- one line
one_spared : (pt next : Point) (l : Line) → Spares l → after pt (l ∷ []) ≡ Some next → Numbered pt.view (l ∷ []) next.view
one_spared pt next l h leads = numbered_same pt.view next.view (l ∷ []) (ap (λ (o : Option Put). cons_option o []) h.none) (λ a c. ap (λ (v : View). long v a c) (one_view pt next l leads) ∙ h.wires pt.view a c)

-- a packet, under the next number
more_long : (f : ℕ → ℕ → Pair) (x y : ℕ) (p : Pair) (a c : ℕ) (t : Bool) → ((x == a) && (y == c)) ≡ t → length p.wire ≡ length (f x y).wire + 1 → length (if t then p else f a c).wire ≡ (if t then length (f x y).wire + 1 else length (f a c).wire)
more_long f x y p a c true e more = more
more_long f x y p a c false e more = refl

-- how long a wire is behind one more packet on that from x to y, which had n
abbrev longer : ℕ → ℕ → ℕ → ℕ → ℕ → ℕ → ℕ
longer x y n a c was = if (x == a) && (y == c) then n + 1 else was

packet_numbered : (v w : View) (x y n : ℕ) (l : Load) → n ≡ long v x y → ((a c : ℕ) → long w a c ≡ longer x y (long v x y) a c (long v a c)) → Numbered v (Line.Packet x y n l ∷ []) w
packet_numbered v w x y n l is longs = record {
  grows = λ a c. (let e = longs a c in grows_by (long v x y) (long v a c) (long w a c) ((x == a) && (y == c)) (same_long a c) e);
  below = λ a c k e. below_by a c k e;
  each = λ a c k least less. each_by a c k least less;
}
  where
    same_long : (a c : ℕ) → ((x == a) && (y == c)) ≡ true → long v x y ≡ long v a c
    same_long a c e = let k = parts (x == a) (y == c) e in λ i. long v (eqb-true x a k.0 i) (eqb-true y c k.1 i)

    grows_by : (m was now : ℕ) (t : Bool) → (t ≡ true → m ≡ was) → now ≡ (if t then m + 1 else was) → was ≤ now
    grows_by m was now true same e = let f = same refl in omega (arith, e, f)
    grows_by m was now false same e = omega (arith, e)

    is_this : (a c k : ℕ) → says_put (Line.Packet x y n l ∷ []) a c k ≡ true → ((a == x) && (c == y) && (k == n)) ≡ true
    is_this a c k e = grind (arith, nat_tests)

    below_by : (a c k : ℕ) → says_put (Line.Packet x y n l ∷ []) a c k ≡ true → k < long w a c
    below_by a c k e =
        let f = is_this a c k e in
        let xa : a ≡ x = grind (arith, nat_tests) in
        let yc : c ≡ y = grind (arith, nat_tests) in
        let kn : k ≡ n = grind (arith, nat_tests) in
        let here : ((x == a) && (y == c)) ≡ true = grind (arith, nat_tests) in
        let g : long w a c ≡ long v x y + 1 = longs a c ∙ ap (λ (t : Bool). if t then long v x y + 1 else long v a c) here in
        omega (arith, g, kn, is)

    each_by : (a c k : ℕ) → long v a c ≤ k → k < long w a c → says_put (Line.Packet x y n l ∷ []) a c k ≡ true
    each_by a c k least less = elim (cases_Bool ((x == a) && (y == c))) [
      | inl here ↦
          let g : long w a c ≡ long v x y + 1 = longs a c ∙ ap (λ (t : Bool). if t then long v x y + 1 else long v a c) here in
          let s = same_long a c here in
          let kn : k ≡ n = omega (arith, g, s, is, least, less) in
          let both = parts (x == a) (y == c) here in
          let xa : x ≡ a = eqb-true x a both.0 in
          let yc : y ≡ c = eqb-true y c both.1 in
          grind (arith, nat_tests)
      | inr off ↦
          let g : long w a c ≡ long v a c = longs a c ∙ ap (λ (t : Bool). if t then long v x y + 1 else long v a c) off in
          absurd (omega (arith, g, least, less))
    ]

packet_longs : (v : View) (x y n : ℕ) (l : Load) (a c : ℕ) → long (view_after v (Line.Packet x y n l)) a c ≡ longer x y (long v x y) a c (long v a c)
packet_longs v x y n l a c =
    let p = record (v.pair x y) { gone = view.gone_after l (v.pair x y).gone; wire = (v.pair x y).wire ++ record { load = l; delivered = false } ∷ [] } in
    more_long v.pair x y p a c ((x == a) && (y == c)) refl (length-append (v.pair x y).wire (record { load = l; delivered = false } ∷ []))

one_packet : (pt next : Point) (x y n : ℕ) (l : Load) → n ≡ long pt.view x y → after pt (Line.Packet x y n l ∷ []) ≡ Some next → Numbered pt.view (Line.Packet x y n l ∷ []) next.view
one_packet pt next x y n l is leads =
    packet_numbered pt.view next.view x y n l is (λ a c. ap (λ (v : View). long v a c) (one_view pt next (Line.Packet x y n l) leads) ∙ packet_longs pt.view x y n l a c)

-- a message is put, and goes out where it may
rest_numbered : (pt mid next : Point) (x y : ℕ) (l : Load) (c d : Bool) → long mid.view x y ≡ long pt.view x y → after mid (if c then [] else if d then packet_line pt.view x y l ∷ [] else []) ≡ Some next
    → Numbered mid.view (if c then [] else if d then packet_line pt.view x y l ∷ [] else []) next.view
rest_numbered pt mid next x y l true d same leads = let f : mid ≡ next = cc in numbered_same mid.view next.view [] refl (λ a c. ap (λ (q : Point). long q.view a c) (sym f))
rest_numbered pt mid next x y l false false same leads = let f : mid ≡ next = cc in numbered_same mid.view next.view [] refl (λ a c. ap (λ (q : Point). long q.view a c) (sym f))
rest_numbered pt mid next x y l false true same leads = one_packet mid next x y (long pt.view x y) l (sym same) leads

puts_numbered : (pt next : Point) (b : ℕ) (i : MsgId) (k : MessageKind) (q : Pid) (ls : List Line) → puts pt.view b i k q ≡ ls → after pt ls ≡ Some next → Numbered pt.view ls next.view
puts_numbered pt next b i k q ls are leads =
    let a = pt.view.acting in
    let put = Line.Put a b i k q in
    let l = Load.Data (length (pt.view.pair a b).ids) in
    let rest = if a == b then [] else if goes_out (pt.view.pair a b) then packet_line pt.view a b l ∷ [] else [] in
    let (mid, first, more) = bind-is (after_line pt put) (λ (x : Point). after x rest) next (ap (after pt) are ∙ leads) in
    let one : after pt (put ∷ []) ≡ Some mid = ap (λ (o : Option Point). bind o (λ (x : Point). after x [])) first in
    let spares = put_spares a b i k q in
    let same : long mid.view a b ≡ long pt.view a b = ap (λ (v : View). long v a b) (line_view pt mid put first) ∙ spares.wires pt.view a b in
    subst (λ (xs : List Line). Numbered pt.view xs next.view) are
    (numbered_then pt.view mid.view next.view (put ∷ []) rest (one_spared pt mid put spares one) (rest_numbered pt mid next a b l (a == b) (goes_out (pt.view.pair a b)) same more))

-- what a part says by itself is no packet
abbrev Spared : Part → Type 0
Spared (Says l) = Spares l
Spared _ = ⊤

abbrev AllSpared : List Part → Type 0
AllSpared [] = ⊤
AllSpared (p ∷ ps) = Spared p × AllSpared ps

part_numbered : (pt next : Point) (p : Part) (ls : List Line) → Spared p → lines_of pt p ≡ Some ls → after pt ls ≡ Some next → Numbered pt.view ls next.view
part_numbered pt next (Says l) ls h are leads =
    let f : l ∷ [] ≡ ls = cc in
    subst (λ (xs : List Line). Numbered pt.view xs next.view) f (one_spared pt next l h (ap (after pt) f ∙ leads))
part_numbered pt next (Routes i) ls h are leads =
    let (m, there, last) = bind-is (pt.kernel.bag i) (λ m. Some (puts pt.view (pt.addresses (Receiver i)).at i (plain_kind m.what) m.to)) ls are in
    puts_numbered pt next (pt.addresses (Receiver i)).at i (plain_kind m.what) m.to ls (cc) leads
part_numbered pt next (Again i b) ls h are leads =
    let (t, there, last) = bind-is (pt.view.told i) (λ t. Some (puts pt.view b i t.kind t.receiver)) ls are in
    puts_numbered pt next b i t.kind t.receiver ls (cc) leads
part_numbered pt next (Owns k q b) ls h are leads = puts_numbered pt next b (own_id pt.view) k q ls (cc) leads
part_numbered pt next (Transmits a b l) ls h are leads =
    let f : packet_line pt.view a b l ∷ [] ≡ ls = cc in
    subst (λ (xs : List Line). Numbered pt.view xs next.view) f (one_packet pt next a b (long pt.view a b) l refl (ap (after pt) f ∙ leads))

parts_numbered : (ps : List Part) (pt : Point) (w : Spelled) → AllSpared ps → spelled pt ps ≡ Some w → Numbered pt.view w.lines w.point.view
parts_numbered qs q w spared is = by_parts (λ ps pt v. AllSpared ps → Numbered pt.view v.lines v.point.view) (λ pt so. numbered_same pt.view pt.view [] refl (λ a c. refl))
    (λ p ps pt next ls z lines leads rest so. numbered_then pt.view next.view z.point.view ls z.lines (part_numbered pt next p ls so.0 lines leads) (rest so.1)) qs q w is spared

fit_spared : (f : ℕ → ℕ → Pair) (ps : List Part) → AllFit f ps → AllSpared ps
fit_spared f [] h = tt
fit_spared f (Says l ∷ ps) h = (quiet_spares l h.0, fit_spared f ps h.1)
fit_spared f (p ∷ ps) h = (tt, fit_spared f ps h.1)

net_spared : (ps : List Part) → IsNet ps → AllSpared ps
net_spared [] h = tt
net_spared (Says l ∷ ps) h = (net_spares l h.0, net_spared ps h.1)
net_spared (Transmits a b l ∷ ps) h = (tt, net_spared ps h.1)
net_spared _ h = absurd h.0

outcome_spared : (b : Boot) (pt : Point) (d : Step) (ps : List Part) → rule.outcome b pt d ≡ Some ps → AllSpared ps
outcome_spared b pt (Step.Turn m) ps is = fit_spared pt.view.pair ps (turns_fit pt.view.pair b pt m (pt.view.inbox m) ps is)
outcome_spared b pt (Step.Tick m) ps is =
    let qs = rule.resends pt.view m pt.kernel.machines in
    let l = Line.Resent m (rule.outstanding_count pt.view m pt.kernel.machines) in
    let f : Says l ∷ qs ≡ ps = cc in
    subst AllSpared f (net_spares l tt, net_spared qs (resends_net pt.view m pt.kernel.machines))
outcome_spared b pt (Step.Deliver a c k) ps is =
    let qs = rule.arrives a c (pt.view.pair a c) (pt.view.pair c a) (slice_get (pt.view.pair a c).wire k) in
    let f : qs ≡ ps = cc in
    subst AllSpared f (net_spared qs (arrives_net a c (pt.view.pair a c) (pt.view.pair c a) (slice_get (pt.view.pair a c).wire k)))
outcome_spared b pt (Step.Migrate p m) ps is = let f : migrates pt p ≡ ps = cc in subst AllSpared f (fit_spared pt.view.pair (migrates pt p) (migrates_fit pt.view.pair pt p))
outcome_spared b pt (Step.CallOff p m) ps is =
    let qs = calls_off pt m p (pt.view.known m p) in
    let f : qs ≡ ps = cc in
    subst AllSpared f (fit_spared pt.view.pair qs (calls_off_fit pt.view.pair pt m p))

-- a group
pub group_numbered : (b : Boot) (pt : Point) (d : Step) (w : Spelled) → group_of b pt d ≡ Some w → Numbered pt.view w.lines w.point.view
group_numbered b pt d w is = by_group (λ v. Numbered pt.view v.lines v.point.view) b pt d w
    (λ ps rest follows said. (let mid = moved pt (Line.Head d) pt.kernel in
    numbered_then pt.view mid.view rest.point.view (Line.Head d ∷ []) rest.lines (one_spared pt mid (Line.Head d) (head_spares d) refl) (parts_numbered ps mid rest (outcome_spared b pt d ps follows) said))) is
