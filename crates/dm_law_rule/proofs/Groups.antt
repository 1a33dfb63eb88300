-- What deliveries and ticks say keeps that each message stands once; and so does every group.
use Rattle.dm_law_rule.proofs.Names.{◌≡◌, ℕ, zero, suc, ◌+◌, ◌-◌, ◌==◌, Bool, true, false, not, filter, List, [], ◌∷◌, ◌++◌, refl, ap, ◌∙◌, arith, length, ⊤, if◌then◌else◌, slice_get, Option, None, Some, nat_tests, MsgId, bind, OneKernel, Step}
use Rattle.dm_law_rule.proofs.Names.{Line, Load, View, Pair, view_after, Point, label_of, kernel_after, moved, after_line, Part, Says, Transmits, Spelled, packet_line, spelled, Spot, Queue, Untaken, ids_at, standing, bind-is, Boot}
use Rattle.dm_law_rule.proofs.Names.{group_of, IsValid, SentLoad, after_head, pair_window, first_point, Leads, StandsOnceAlways, start-sound, Pid, PlainMessage, migrates, StandsAsBag, StandsOutside, StandsRight, eqb-true, MessageKind}
use Rattle.dm_law_rule.proofs.Names.{calls_off}
use Rattle.dm_law_rule.proofs.Lines.{Stands-stays, pair_keeps, eq_self, Bag, Stands, taken_by}
use Rattle.dm_law_rule.proofs.States.{State, says_next, transmits_next, said, State-at, by_line, by_packet, PairsFit}
use Rattle.dm_law_rule.proofs.Handled.{turns_row}
use Rattle.dm_law_rule.proofs.Pairs.{Pairs-group, Pairs-start, pair_stands, pair_home, Pairs}
use Rattle.dm_law_rule.proofs.Letters.{letters, letter_of}
use Rattle.dm_law_rule.specs.View as view
use Rattle.dm_law_rule.specs.Rule as rule
use Rattle.dm_law_rule.proofs.Requests.{by_migrates, by_calls_off}
use Rattle.dm_law_rule.proofs.Moves.Called.{called_row}
use Rattle.dm_law_rule.proofs.Moves.Sent.{line_ends, owns_ends}

-- lines of deliveries and ticks
abbrev pub IsNetLine : Line → Type 0
IsNetLine (Line.Taken a b n) = ⊤
IsNetLine (Line.Old a b n) = ⊤
IsNetLine (Line.Early a b n) = ⊤
IsNetLine (Line.Acked a b n) = ⊤
IsNetLine Line.Nothing = ⊤
IsNetLine (Line.Resent m n) = ⊤
IsNetLine l = ⊥

abbrev pub IsNetPart : Part → Type 0
IsNetPart (Says l) = IsNetLine l
IsNetPart (Transmits a b l) = ⊤
IsNetPart _ = ⊥

abbrev pub IsNet : List Part → Type 0
IsNet [] = ⊤
IsNet (p ∷ ps) = IsNetPart p × IsNet ps

pub early_off : (v : View) (a b n : ℕ) (z : Spot) → ids_at (view.after_early v a b n) z ≡ ids_at v z
early_off v a b n (Untaken c d) = pair_keeps v.pair a b (record (v.pair a b) { kept = n ∷ filter (λ k. not (k == n)) (v.pair a b).kept }) refl c d
early_off v a b n _ = refl

pub acked_off : (v : View) (a b n : ℕ) (z : Spot) → ids_at (view.after_acked v a b n) z ≡ ids_at v z
acked_off v a b n z = grind (arith, nat_tests, pair_keeps)

net_line : (pt : Point) (l : Line) → IsNetLine l → State None pt → (s : OneKernel) → kernel_after pt.kernel (label_of l) ≡ Some s → State None (moved pt l s)
net_line pt (Line.Taken a b n) is h s k =
    let Stands-taken : (bag : Bag) (v : View) (a b n : ℕ) → Stands bag v → Stands bag (view.after_taken v a b n) = λ bag v a b n h. taken_by bag v a b n (slice_get (v.pair a b).ids (v.pair a b).taken) refl h in
    let taken_told : (v : View) (b : ℕ) (o : Option MsgId) (i : MsgId) → (view.taken_id v b o).told i ≡ v.told i = λ v b o i. elim o as (λ o_. (view.taken_id v b o_).told i ≡ v.told i) [ None ↦ refl | Some j' ↦ refl ] in
    State-at None (moved pt (Line.Taken a b n) pt.kernel) (moved pt (Line.Taken a b n) s) (ap (moved pt (Line.Taken a b n)) (let g : pt.kernel ≡ s = cc in g))
    (by_line None pt (Line.Taken a b n) refl h (Stands-taken (letters h.own pt.kernel.bag) pt.view a b n h.stands) (λ i. taken_told (view.with_pair pt.view a b (record (pt.view.pair a b) { taken = (pt.view.pair a b).taken + 1; kept = filter (λ k. not (k == n)) (pt.view.pair a b).kept })) b (view.oldest (pt.view.pair a b)) i))
net_line pt (Line.Old a b n) is h s k =
    State-at None (moved pt (Line.Old a b n) pt.kernel) (moved pt (Line.Old a b n) s) (ap (moved pt (Line.Old a b n)) (let g : pt.kernel ≡ s = cc in g)) (by_line None pt (Line.Old a b n) refl h h.stands (λ i. refl))
net_line pt (Line.Early a b n) is h s k =
    State-at None (moved pt (Line.Early a b n) pt.kernel) (moved pt (Line.Early a b n) s) (ap (moved pt (Line.Early a b n)) (let g : pt.kernel ≡ s = cc in g))
    (by_line None pt (Line.Early a b n) refl h (Stands-stays (letters h.own pt.kernel.bag) pt.view (view_after pt.view (Line.Early a b n)) (λ z. early_off pt.view a b n z) (λ i. refl) h.stands) (λ i. refl))
net_line pt (Line.Acked a b n) is h s k =
    State-at None (moved pt (Line.Acked a b n) pt.kernel) (moved pt (Line.Acked a b n) s) (ap (moved pt (Line.Acked a b n)) (let g : pt.kernel ≡ s = cc in g))
    (by_line None pt (Line.Acked a b n) refl h (Stands-stays (letters h.own pt.kernel.bag) pt.view (view_after pt.view (Line.Acked a b n)) (λ z. acked_off pt.view a b n z) (λ i. refl) h.stands) (λ i. refl))
net_line pt Line.Nothing is h s k =
    State-at None (moved pt Line.Nothing pt.kernel) (moved pt Line.Nothing s) (ap (moved pt Line.Nothing) (let g : pt.kernel ≡ s = cc in g)) (by_line None pt Line.Nothing refl h h.stands (λ i. refl))
net_line pt (Line.Resent m n) is h s k =
    State-at None (moved pt (Line.Resent m n) pt.kernel) (moved pt (Line.Resent m n) s) (ap (moved pt (Line.Resent m n)) (let g : pt.kernel ≡ s = cc in g)) (by_line None pt (Line.Resent m n) refl h h.stands (λ i. refl))
net_line pt _ is h s k = absurd is

net_row : (parts : List Part) (pt : Point) (w : Spelled) → IsNet parts → State None pt → spelled pt parts ≡ Some w → State None w.point
net_row [] pt w is h e = State-at None pt w.point (said pt w e) h
net_row (Says l ∷ ps) pt w is h e =
    let k = says_next pt l ps w e in
    State-at None k.rest.point w.point k.point (net_row ps (moved pt l k.s) k.rest is.1 (net_line pt l is.0 h k.s k.is) k.more)
net_row (Transmits a b l ∷ ps) pt w is h e =
    let k = transmits_next pt a b l ps w e in
    State-at None k.rest.point w.point k.point
    (net_row ps (moved pt (packet_line pt.view a b l) pt.kernel) k.rest is.1 (by_packet None pt a b (length (pt.view.pair a b).wire) l h) k.more)
net_row _ pt w is h e = absurd is.0

net-append : (ps qs : List Part) → IsNet ps → IsNet qs → IsNet (ps ++ qs)
net-append [] qs h k = k
net-append (p ∷ ps) qs h k = (h.0, net-append ps qs h.1 k)

repeats_net : (a b : ℕ) (ns : List ℕ) → IsNet (rule.repeats a b ns)
repeats_net a b [] = tt
repeats_net a b (n ∷ ns) = (tt, repeats_net a b ns)

takes_net : (a b : ℕ) (ns : List ℕ) → IsNet (rule.taking_parts a b ns)
takes_net a b [] = tt
takes_net a b (n ∷ ns) = (tt, takes_net a b ns)

data_net : (a b : ℕ) (p : Pair) (n : ℕ) (c d : Bool) → IsNet (if c then Says (Line.Old a b n) ∷ Transmits b a (Load.Ack p.taken) ∷ [] else if d then Says (Line.Early a b n) ∷ Transmits b a (Load.Ack p.taken) ∷ [] else rule.takes_on a b n (rule.kept_from p.kept (n + 1) pair_window))
data_net a b p n c d = search (arith, net-append, takes_net)

pub arrives_net : (a b : ℕ) (p q : Pair) (o : Option SentLoad) → IsNet (rule.arrives a b p q o)
arrives_net a b p q o = search (arith, data_net, repeats_net)

if_net : (c : Bool) (ps : List Part) → IsNet ps → IsNet (if c then [] else ps)
if_net true ps h = tt
if_net false ps h = h

pub resends_net : (v : View) (m b : ℕ) → IsNet (rule.resends v m b)
resends_net v m zero = tt
resends_net v m (suc b) = net-append (rule.resends v m b) (if m == b then [] else rule.repeats m b (rule.numbers_from (v.pair m b).acked ((v.pair m b).gone - (v.pair m b).acked))) (resends_net v m b) (if_net (m == b) (rule.repeats m b (rule.numbers_from (v.pair m b).acked ((v.pair m b).gone - (v.pair m b).acked))) (repeats_net m b (rule.numbers_from (v.pair m b).acked ((v.pair m b).gone - (v.pair m b).acked))))

-- the head of a group moves no message
pub deliver_off : (v : View) (a b k : ℕ) (z : Spot) → ids_at (after_head v (Step.Deliver a b k)) z ≡ ids_at v z
deliver_off v a b k (Untaken c d) = pair_keeps v.pair a b (view.marked (v.pair a b) k) refl c d
deliver_off v a b k _ = refl

pub turn_off : (v : View) (m : ℕ) (z : Spot) → ids_at (after_head v (Step.Turn m)) z ≡ ids_at v z
turn_off v m (Queue n p) = refl
turn_off v m _ = refl

pub tick_off : (v : View) (m : ℕ) (z : Spot) → ids_at (after_head v (Step.Tick m)) z ≡ ids_at v z
tick_off v m (Queue n p) = refl
tick_off v m _ = refl

pub migrate_off : (v : View) (p : Pid) (m : ℕ) (z : Spot) → ids_at (after_head v (Step.Migrate p m)) z ≡ ids_at v z
migrate_off v p m z = grind (arith, nat_tests)

pub call_off : (v : View) (p : Pid) (m : ℕ) (z : Spot) → ids_at (after_head v (Step.CallOff p m)) z ≡ ids_at v z
call_off v p m (Queue n q) = refl
call_off v p m _ = refl

pub begun : (pt : Point) (d : Step) → State None pt → ((z : Spot) → ids_at (after_head pt.view d) z ≡ ids_at pt.view z) → ((i : MsgId) → (after_head pt.view d).told i ≡ pt.view.told i) → State None (moved pt (Line.Head d) pt.kernel)
begun pt d h off told = by_line None pt (Line.Head d) refl h (Stands-stays (letters h.own pt.kernel.bag) pt.view (view_after pt.view (Line.Head d)) off told h.stands) told

-- a group is its head and what is spelled behind it
pub record GroupIs (b : Boot) (pt : Point) (d : Step) (w : Spelled) : Type 0 where
  pub parts : List Part
  pub is : rule.outcome b pt d ≡ Some parts
  pub rest : Spelled
  pub said : spelled (moved pt (Line.Head d) pt.kernel) parts ≡ Some rest
  pub point : rest.point ≡ w.point
  pub whole : rule.behind (Line.Head d ∷ []) rest ≡ w

pub group_is : (b : Boot) (pt : Point) (d : Step) (w : Spelled) → group_of b pt d ≡ Some w → GroupIs b pt d w
group_is b pt d w e =
    let (parts, is, more) = bind-is (rule.outcome b pt d) (λ parts. bind (after_line pt (Line.Head d)) (λ begun. bind (spelled begun parts) (λ w. Some (rule.behind (Line.Head d ∷ []) w)))) w e in
    let (start, head, last) = bind-is (after_line pt (Line.Head d)) (λ begun. bind (spelled begun parts) (λ w. Some (rule.behind (Line.Head d ∷ []) w))) w more in
    let (rest, told, end) = bind-is (spelled start parts) (λ w. Some (rule.behind (Line.Head d ∷ []) w)) w last in
    let g : rule.behind (Line.Head d ∷ []) rest ≡ w = cc in
    record { parts = parts; is = is; rest = rest; said = ap (λ p. spelled p parts) (let f : moved pt (Line.Head d) pt.kernel ≡ start = cc in f) ∙ told; point = ap (λ (x : Spelled). x.point) g; whole = g }

-- every group keeps that each message stands once
pub State-group : (b : Boot) (pt : Point) (d : Step) (w : Spelled) → group_of b pt d ≡ Some w → PairsFit pt.view → State None pt → State None w.point
State-group b pt (Step.Turn m) w e fits h =
    let g = group_is b pt (Step.Turn m) w e in
    State-at None g.rest.point w.point g.point
    (turns_row b pt (moved pt (Line.Head (Step.Turn m)) pt.kernel) m (pt.view.inbox m) g.parts g.rest (begun pt (Step.Turn m) h (λ z. turn_off pt.view m z) (λ i. refl))
    (record { within = fits.within; home = fits.home }) refl refl (record { kernel = refl; queue = λ q. refl; held = λ q. refl }) g.is g.said)
State-group b pt (Step.Tick m) w e fits h =
    let g = group_is b pt (Step.Tick m) w e in
    let f : Says (Line.Resent m (rule.outstanding_count pt.view m pt.kernel.machines)) ∷ rule.resends pt.view m pt.kernel.machines ≡ g.parts = let k = g.is in cc in
    let start = moved pt (Line.Head (Step.Tick m)) pt.kernel in
    State-at None g.rest.point w.point g.point
    (net_row (Says (Line.Resent m (rule.outstanding_count pt.view m pt.kernel.machines)) ∷ rule.resends pt.view m pt.kernel.machines) start g.rest (tt, resends_net pt.view m pt.kernel.machines)
    (begun pt (Step.Tick m) h (λ z. tick_off pt.view m z) (λ i. refl)) (ap (spelled start) f ∙ g.said))
State-group b pt (Step.Deliver a c k) w e fits h =
    let g = group_is b pt (Step.Deliver a c k) w e in
    let parts = rule.arrives a c (pt.view.pair a c) (pt.view.pair c a) (slice_get (pt.view.pair a c).wire k) in
    let start = moved pt (Line.Head (Step.Deliver a c k)) pt.kernel in
    State-at None g.rest.point w.point g.point
    (net_row parts start g.rest (arrives_net a c (pt.view.pair a c) (pt.view.pair c a) (slice_get (pt.view.pair a c).wire k))
    (begun pt (Step.Deliver a c k) h (λ z. deliver_off pt.view a c k z) (λ i. refl)) (ap (spelled start) (let f : parts ≡ g.parts = let t = g.is in cc in f) ∙ g.said))
State-group b pt (Step.Migrate p m) w e fits h =
    let g = group_is b pt (Step.Migrate p m) w e in
    let f : migrates pt p ≡ g.parts = let k = g.is in cc in
    let start = moved pt (Line.Head (Step.Migrate p m)) pt.kernel in
    -- the directive to migrate
    let migrates_row : (o pt : Point) (p : Pid) (w : Spelled) → State None pt → PairsFit pt.view → spelled pt (migrates o p) ≡ Some w → State None w.point = λ o pt p w h fit.
    by_migrates (λ (ps : List Part). spelled pt ps ≡ Some w → State None w.point) o p (λ e. line_ends pt Line.Away w refl (by_line None pt Line.Away refl h h.stands (λ j. refl)) e)
    (λ e. line_ends pt (Line.NoChild p) w refl (by_line None pt (Line.NoChild p) refl h h.stands (λ j. refl)) e) (λ a here knows e. owns_ends pt MessageKind.Migrate p a.at w (record { state = h; fits = fit }) e) in
    State-at None g.rest.point w.point g.point
    (migrates_row pt start p g.rest (begun pt (Step.Migrate p m) h (λ z. migrate_off pt.view p m z) (λ i. refl)) (record { within = fits.within; home = fits.home }) (ap (spelled start) f ∙ g.said))
State-group b pt (Step.CallOff p m) w e fits h =
    let g = group_is b pt (Step.CallOff p m) w e in
    let f : calls_off pt m p (pt.view.known m p) ≡ g.parts = let k = g.is in cc in
    let start = moved pt (Line.Head (Step.CallOff p m)) pt.kernel in
    let state = begun pt (Step.CallOff p m) h (λ z. call_off pt.view p m z) (λ i. refl) in
    State-at None g.rest.point w.point g.point
    (by_calls_off (λ (ps : List Part). spelled start ps ≡ Some g.rest → State None g.rest.point) pt m p (λ e. line_ends start (Line.NoCall p) g.rest refl (by_line None start (Line.NoCall p) refl state state.stands (λ j. refl)) e)
    (λ from is come e. called_row start p from g.rest state (record { within = fits.within; home = fits.home }) e) (ap (spelled start) f ∙ g.said))

abbrev nobody : Option Pid
nobody = None

nothing_stands : (f : Spot → ℕ) (c : Bool) → ((z : Spot) → f z ≡ 0) → StandsAsBag (if c then nobody else nobody) f
nothing_stands f true h = h
nothing_stands f false h = h

nothing_there : (x : Pid) (c : Bool) → (if c then nobody else nobody) ≡ Some x → ⊥
nothing_there x true e = let k : None ≡ Some x = e in cc
nothing_there x false e = let k : None ≡ Some x = e in cc

pub State-start : (b : Boot) → IsValid b → State None (first_point b)
State-start b valid = record {
  r = λ i. 0;
  e = λ i. 0;
  sound = start-sound b valid;
  own = λ i. None;
  stands = (search (arith, nothing_stands, nothing_there));
  untold = λ i z other. refl;
  numbered = λ m n le. refl;
  pending = λ j k. cc;
  there = λ j k. cc;
}

-- what the pairs of machines are says that all that was taken was routed
pub fits : (v : View) → Pairs v → PairsFit v
fits v h = record { within = λ a b. search (arith, eqb-true, pair_home, eq_self, pair_stands); home = λ a. (pair_home v a h).taken }

run_keeps : (es : List Step) (b : Boot) (pt : Point) (end : Point) → Leads b pt es end → Pairs pt.view → State None pt → State None end
run_keeps [] b pt end leads pairs h = State-at None pt end leads h
run_keeps (d ∷ ds) b pt end (w, step_, group, more) pairs h =
    run_keeps ds b w.point end more (Pairs-group b pt d w step_ group pairs) (State-group b pt d w group (fits pt.view pairs) h)

pub stands_right : (pt : Point) (i : MsgId) (h : State None pt) (o : Option PlainMessage) → pt.kernel.bag i ≡ o → StandsRight i o (standing pt.view i)
stands_right pt i h o h1 =
    -- a message of the bag is under way, one that isn't is a kernel's own or stands nowhere
    let right_by : (i : MsgId) (own : Option Pid) (c : Bool) (f : Spot → ℕ) → StandsAsBag (if c then own else None) f → StandsOutside c f = λ i own c f h1. search arith in
    search (arith, right_by, letter_of)

pub stands_once_always : StandsOnceAlways
stands_once_always b es pt id valid leads = stands_right pt id (run_keeps es b (first_point b) pt leads (Pairs-start b) (State-start b valid)) (pt.kernel.bag id) refl
