-- What a group may do to counts: raise them and route a message, put a message of a kernel's own, or restart a process.
use Rattle.dm_law_mirror.proofs.Names.{false≢true, Run, ◌≡◌, ◌⊎◌, inl, inr, ℕ, ◌+◌, ◌≤◌, ◌==◌, Bool, true, false, List, [], ◌∷◌, length, refl, ap, ◌∙◌, sym, subst, arith, if◌then◌else◌, Option, None, Some, Pid, MsgId, MessageKind, plain_kind}
use Rattle.dm_law_mirror.proofs.Names.{Label, OneKernel, bind-is, Line, Stage, Load, Receiver, Says, Routes, Again, Owns, Transmits, Spelled, goes_out, packet_line, puts, spelled, Point, after, kernel_after, label_of, moved, View, own_id}
use Rattle.dm_law_mirror.proofs.Names.{view_after, onward, said, says_next, transmits_next, ◌++◌, ⊤, slice_get, PlainMessage, Boot, manager, Step, migrates, sends_on, to_kernel, updates, outcome, About, Told, actor, arrives_net, resends_net}
use Rattle.dm_law_mirror.proofs.Names.{by_migrates, by_hears, nat_tests, Outcome, MoveNote, leaves_for, seen, by_calls_off, buried, preds_of, buries_kept}
use Rattle.dm_law_rule.proofs.Names.{Part}
use Rattle.dm_law_rule.specs.Migrating.{tells_asker}
use Rattle.dm_law_rule.specs.Rule as rule
use Rattle.dm_law_mirror.proofs.Paying.{Paid, AreMute, PaidIf, forwards_paid, line_within, front_paid, mute_paid, net_paid, round_paid, same_within, tells_paid}
use Rattle.dm_law_mirror.proofs.Raises.{Within, sent_of}
use Rattle.dm_law_mirror.proofs.Totals.{Grows, grows_on, grows_same, ids_of, line_grows, put_adds, seen_grows}
use Rattle.dm_law_mirror.proofs.Counts.Pairs.{Still, bears, line_still, still_on}

-- parts without a step, and after which as many moves are counted
abbrev pub AllBear : List Part → Type 0
AllBear [] = ⊤
AllBear (Says l ∷ ps) = (bears l ≡ true) × AllBear ps
AllBear (p ∷ ps) = AllBear ps

-- a message of a kernel's own is put
abbrev pub HasOwn : List Part → Type 0
HasOwn [] = ⊥
HasOwn (Owns k q b ∷ ps) = ⊤
HasOwn (p ∷ ps) = HasOwn ps

-- the front message says that a process may restart
pub record FrontRestarts (pt : Point) (m : ℕ) (p : Pid) : Type 0 where
  pub id : MsgId
  pub rest : List MsgId
  pub told : Told
  pub box : pt.view.inbox m ≡ id ∷ rest
  pub told_is : pt.view.told id ≡ Some told
  pub kind_is : told.kind ≡ MessageKind.Restart
  pub about : told.about ≡ About.Of p

pub data Sort (pt : Point) (m : ℕ) (ps : List Part) : Type 0 where
  Pays : (paid : Paid pt.kernel ps) → Sort pt m ps
  Bears : (all : AllBear ps) → (own : HasOwn ps) → Sort pt m ps
  Restarts : (p : Pid) → (front : FrontRestarts pt m p) → (asked : Option MoveNote) → (is : ps ≡ Says (Line.Migration Stage.Restarted p) ∷ tells_asker asked Outcome.Done) → Sort pt m ps

abbrev pub SortIf : Point → ℕ → Option (List Part) → Type 0
SortIf pt m None = ⊤
SortIf pt m (Some ps) = Sort pt m ps

paid_sort : (pt : Point) (m : ℕ) (o : Option (List Part)) → PaidIf pt.kernel o → SortIf pt m o
paid_sort pt m None h = tt
paid_sort pt m (Some ps) h = Pays h

mute : (pt : Point) (m : ℕ) (ps : List Part) → AreMute ps → Sort pt m ps
mute pt m ps h = Pays (mute_paid ps pt.kernel h)

-- what a kernel is told by another
sends_bear : (to : ℕ) (ids : List MsgId) (ps : List Part) → AllBear ps → AllBear (sends_on to ids ++ ps)
sends_bear to [] ps h = h
sends_bear to (i ∷ is) ps h = sends_bear to is ps h

sends_own : (to : ℕ) (ids : List MsgId) (ps : List Part) → HasOwn ps → HasOwn (sends_on to ids ++ ps)
sends_own to [] ps h = h
sends_own to (i ∷ is) ps h = sends_own to is ps h

sort_of : (pt : Point) (m : ℕ) (o : Option (List Part)) → ((ps : List Part) → o ≡ Some ps → Sort pt m ps) → SortIf pt m o
sort_of pt m None h = tt
sort_of pt m (Some ps) h = h ps refl

hears_sort : (b : Boot) (pt : Point) (m : ℕ) (i : MsgId) (is : List MsgId) (o : Option Told) → pt.view.inbox m ≡ i ∷ is → pt.view.told i ≡ o → SortIf pt m (rule.hears b pt m i o)
hears_sort b pt m i is o box told = sort_of pt m (rule.hears b pt m i o) (λ ps. by_hears (Sort pt m) b pt m i o ps (λ t there. record {
  stale = λ p about late. mute pt m (Says (Line.Stale i) ∷ []) (refl, refl, tt);
  buried = λ p about kind. mute pt m (buried pt m i p) (refl, refl, buries_kept AreMute tt (λ to ps h. h) (preds_of pt m p));
  told = λ p x about alive due. record {
    accepted = λ ask. Bears (refl, tt) tt;
    lacks = λ slots blocks. mute pt m (Says (Line.Lacks p slots blocks) ∷ to_kernel MessageKind.Refuse i.from.home ∷ []) (refl, refl, tt);
    stays = λ kind none. mute pt m (Says (Line.Stays p) ∷ []) (refl, refl, tt);
    stays_asked = λ kind n asked. Pays (refl, λ s e. inl (line_within pt.kernel s None refl e, tells_paid s (Some n) Outcome.Stayed));
    state = mute pt m (Says (Line.Proto i) ∷ to_kernel MessageKind.State i.from.home ∷ []) (refl, refl, tt);
    next_chunk = mute pt m (Says (Line.Proto i) ∷ to_kernel MessageKind.PullState i.from.home ∷ []) (refl, refl, tt);
    last_chunk = mute pt m (Says (Line.Migration Stage.StateTaken p) ∷ to_kernel MessageKind.PullBlock i.from.home ∷ []) (refl, refl, tt);
    server_chunk = λ server. mute pt m (Says (Line.Migration Stage.StateTaken p) ∷ Says (Line.Migration Stage.MemoryTaken p) ∷ to_kernel MessageKind.AllTaken i.from.home ∷ []) (refl, refl, (refl, refl, tt));
    memory = mute pt m (Says (Line.Proto i) ∷ to_kernel MessageKind.Memory i.from.home ∷ []) (refl, refl, tt);
    next_block = mute pt m (Says (Line.Proto i) ∷ to_kernel MessageKind.PullBlock i.from.home ∷ []) (refl, refl, tt);
    last_block = mute pt m (Says (Line.Migration Stage.MemoryTaken p) ∷ to_kernel MessageKind.AllTaken i.from.home ∷ []) (refl, refl, tt);
    left = λ ids to frozen. Bears (refl, sends_bear to ids (Says (Line.Migration Stage.Left p) ∷ to_kernel MessageKind.Restart i.from.home ∷ []) (refl, tt)) (sends_own to ids (Says (Line.Migration Stage.Left p) ∷ to_kernel MessageKind.Restart i.from.home ∷ []) tt);
    restarted = λ kind none. Restarts p (record { id = i; rest = is; told = t; box = box; told_is = told ∙ there; kind_is = kind; about = about }) None refl;
    restarted_asked = λ kind n asked. Restarts p (record { id = i; rest = is; told = t; box = box; told_is = told ∙ there; kind_is = kind; about = about }) (Some n) refl;
  };
  updated = λ kind. mute pt m (updates pt i t) (refl, refl, tt);
  updated_none = λ kind at_. mute pt m (Says (Line.Updated i 0) ∷ []) (refl, refl, tt);
  no_move = λ at_. mute pt m (Says (Line.NoMove i) ∷ []) (refl, refl, tt);
  leaving = λ to at_. mute pt m (Says (Line.Held i) ∷ []) (refl, refl, tt);
  coming = λ from at_. mute pt m (Says (Line.Held i) ∷ []) (refl, refl, tt);
  forwarded = λ to moves at_. Pays (forwards_paid pt.kernel pt.addresses i t.kind manager to);
  stays_here = λ at_. mute pt m (Says (Line.Here i) ∷ []) (refl, refl, tt);
  frozen = λ to at_. mute pt m (leaves_for t.receiver to) (refl, refl, (refl, refl, tt));
}))

comes_sort : (b : Boot) (pt : Point) (m : ℕ) (i : MsgId) (is : List MsgId) (o : Option PlainMessage) → Run b pt → pt.view.inbox m ≡ i ∷ is → pt.kernel.bag i ≡ o → SortIf pt m (rule.comes_to b pt m i o)
comes_sort b pt m i is None run box there = hears_sort b pt m i is (pt.view.told i) box refl
comes_sort b pt m i is (Some msg) run box there = paid_sort pt m (rule.handles b pt m i msg) (front_paid b pt m i msg run there)

turns_sort : (b : Boot) (pt : Point) (m : ℕ) (box : List MsgId) → Run b pt → pt.view.inbox m ≡ box → SortIf pt m (rule.turns b pt m box)
turns_sort b pt m [] run e =
    let p = rule.first_runnable pt.kernel (pt.view.queue m) (pt.view.ring m) in
    paid_sort pt m (rule.goes_round b pt m p) (round_paid b pt m p)
turns_sort b pt m (i ∷ is) run e = comes_sort b pt m i is (pt.kernel.bag i) run e refl

pub outcome_sort : (b : Boot) (pt : Point) (d : Step) → Run b pt → SortIf pt (actor pt.view d) (outcome b pt d)
outcome_sort b pt (Step.Turn m) run = turns_sort b pt m (pt.view.inbox m) run refl
outcome_sort b pt (Step.Tick m) run = Pays (net_paid (Says (Line.Resent m (rule.outstanding_count pt.view m pt.kernel.machines)) ∷ rule.resends pt.view m pt.kernel.machines) pt.kernel (tt, resends_net pt.view m pt.kernel.machines))
outcome_sort b pt (Step.Deliver a c k) run =
    let there = slice_get (pt.view.pair a c).wire k in
    Pays (net_paid (rule.arrives a c (pt.view.pair a c) (pt.view.pair c a) there) pt.kernel (arrives_net a c (pt.view.pair a c) (pt.view.pair c a) there))
outcome_sort b pt (Step.Migrate p m) run = mute pt (actor pt.view (Step.Migrate p m)) (migrates pt p) (by_migrates AreMute pt p (refl, refl, tt) (refl, refl, tt) (λ a here knows. tt))
outcome_sort b pt (Step.CallOff p m) run =
    let calls : ℕ → List Part = λ from. to_kernel MessageKind.CallOff from ∷ [] in
    by_calls_off (Sort pt m) pt m p (mute pt m (Says (Line.NoCall p) ∷ []) (refl, refl, tt))
    (λ from is come. Bears (refl, sends_bear from (pt.view.held m p) (calls from) tt) (sends_own from (pt.view.held m p) (calls from) tt))

-- Where a group ends: what was routed, how high its counts are, and what has moved.

-- no count is greater than n
pub record Under (n : ℕ) (s : OneKernel) : Type 0 where
  pub sent : (p : Pid) → sent_of (s.processes p) ≤ n
  pub board : s.switchboard.sent ≤ n
  pub manager : s.manager.sent ≤ n
  pub children : length s.manager.children ≤ n
  pub made : (h : ℕ) → s.made h ≤ n
  pub names : length s.switchboard.names ≤ n

pub under_within : (n k m : ℕ) (s t : OneKernel) → n + k ≤ m → Within k s t → Under n s → Under m t
under_within n k m s t le w h = record {
  sent = λ p. omega (arith, le, w.sent p, h.sent p);
  board = omega (arith, le, w.board, h.board);
  manager = omega (arith, le, w.manager, h.manager);
  children = omega (arith, le, w.children, h.children);
  made = λ p. omega (arith, le, w.made p, h.made p);
  names = omega (arith, le, w.names, h.names);
}

pub under_more : (n m : ℕ) (s : OneKernel) → n ≤ m → Under n s → Under m s
under_more n m s le h = under_within n 0 m s s (omega (arith, le)) (same_within s) h

-- a message was routed on the way
pub record PutsOne (v w : View) : Type 0 where
  pub from : ℕ
  pub to : ℕ
  pub more : ids_of v from to + 1 ≤ ids_of w from to

puts_before : (u v w : View) → Grows u v → PutsOne v w → PutsOne u w
puts_before u v w g h = let more = h.more in let less = g.ids h.from h.to in record { from = h.from; to = h.to; more = omega (arith, more, less) }

puts_behind : (u v w : View) → Grows v w → PutsOne u v → PutsOne u w
puts_behind u v w g h = let more = h.more in let less = g.ids h.from h.to in record { from = h.from; to = h.to; more = omega (arith, more, less) }

-- one route
pub record AfterPut (pt next : Point) : Type 0 where
  pub kernel : next.kernel ≡ pt.kernel
  pub known : next.view.known ≡ pt.view.known
  pub grows : Grows pt.view next.view
  pub still : Still pt.view next.view
  pub puts : PutsOne pt.view next.view

packet_next : (pt mid : Point) (a b k : ℕ) (l : Load) → AfterPut pt mid → AfterPut pt (moved mid (Line.Packet a b k l) mid.kernel)
packet_next pt mid a b k l h =
    let w = view_after mid.view (Line.Packet a b k l) in
    let g = line_grows mid.view (Line.Packet a b k l) in
    record { kernel = h.kernel; known = h.known; grows = grows_on pt.view mid.view w h.grows g; still = still_on pt.view mid.view w h.still (line_still mid.view (Line.Packet a b k l) refl); puts = puts_behind pt.view mid.view w g h.puts }

rest_next : (pt mid next : Point) (a b k : ℕ) (l : Load) (home out : Bool) → AfterPut pt mid → after mid (if home then [] else if out then Line.Packet a b k l ∷ [] else []) ≡ Some next → AfterPut pt next
rest_next pt mid next a b k l true out h e = let f : mid ≡ next = cc in subst (AfterPut pt) f h
rest_next pt mid next a b k l false false h e = let f : mid ≡ next = cc in subst (AfterPut pt) f h
rest_next pt mid next a b k l false true h e = let f : moved mid (Line.Packet a b k l) mid.kernel ≡ next = cc in subst (AfterPut pt) f (packet_next pt mid a b k l h)

put_next : (pt next : Point) (b : ℕ) (i : MsgId) (k : MessageKind) (q : Pid) (ls : List Line) → Some (puts pt.view b i k q) ≡ Some ls → after pt ls ≡ Some next → AfterPut pt next
put_next pt next b i k q ls is e =
    let f : puts pt.view b i k q ≡ ls = cc in
    let a = pt.view.acting in
    let l = Line.Put a b i k q in
    let adds = put_adds pt.view a b i k q in
    rest_next pt (moved pt l pt.kernel) next a b (length (pt.view.pair a b).wire) (Load.Data (length (pt.view.pair a b).ids)) (a == b) (goes_out (pt.view.pair a b))
    (record { kernel = refl; known = refl; grows = line_grows pt.view l; still = line_still pt.view l refl; puts = record { from = a; to = b; more = omega (arith, adds) } }) (ap (after pt) f ∙ e)

-- the first part is a route
pub record PartNext (pt : Point) (ps : List Part) (w : Spelled) : Type 0 where
  pub next : Point
  pub after_put : AfterPut pt next
  pub rest : Spelled
  pub on : spelled next ps ≡ Some rest
  pub end : rest.point ≡ w.point

-- a part that puts a message
abbrev pub is_route : Part → Bool
is_route (Says l) = false
is_route (Transmits a c l) = false
is_route _ = true

pub part_next : (pt : Point) (p : Part) (ps : List Part) (w : Spelled) → is_route p ≡ true → spelled pt (p ∷ ps) ≡ Some w → PartNext pt ps w
part_next pt (Routes i) ps w route e =
    let o = onward pt (Routes i) ps w e in
    let (x, there, is) = bind-is (pt.kernel.bag i) (λ x. Some (puts pt.view (pt.addresses (Receiver i)).at i (plain_kind x.what) x.to)) o.lines o.lines_are in
    record { next = o.next; after_put = put_next pt o.next (pt.addresses (Receiver i)).at i (plain_kind x.what) x.to o.lines is o.leads; rest = o.rest; on = o.on; end = o.end }
part_next pt (Again i b) ps w route e =
    let o = onward pt (Again i b) ps w e in
    let (t, there, is) = bind-is (pt.view.told i) (λ t. Some (puts pt.view b i t.kind t.receiver)) o.lines o.lines_are in
    record { next = o.next; after_put = put_next pt o.next b i t.kind t.receiver o.lines is o.leads; rest = o.rest; on = o.on; end = o.end }
part_next pt (Owns k q b) ps w route e =
    let o = onward pt (Owns k q b) ps w e in
    record { next = o.next; after_put = put_next pt o.next b (own_id pt.view) k q o.lines o.lines_are o.leads; rest = o.rest; on = o.on; end = o.end }
part_next pt p ps w route e = absurd (false≢true route)

-- parts that pay, from where all counts are at most n
pub record Ends (n : ℕ) (pt end : Point) : Type 0 where
  pub grows : Grows pt.view end.view
  pub still : Still pt.view end.view
  pub under : Under n end.kernel ⊎ (Under (n + 1) end.kernel × PutsOne pt.view end.view)

pub ends_before : (n : ℕ) (pt mid end : Point) → Grows pt.view mid.view → Still pt.view mid.view → Ends n mid end → Ends n pt end
ends_before n pt mid end g s h = record {
  grows = grows_on pt.view mid.view end.view g h.grows;
  still = still_on pt.view mid.view end.view s h.still;
  under = elim h.under [ inl u ↦ inl u | inr u ↦ inr (u.0, puts_before pt.view mid.view end.view g u.1) ];
}

pays : (n : ℕ) (pt mid : Point) (id : MsgId) (w : Spelled) → Grows pt.view mid.view → Still pt.view mid.view → Under (n + 1) mid.kernel → spelled mid (Routes id ∷ []) ≡ Some w → Ends n pt w.point
pays n pt mid id w g s under e =
    let k = part_next mid (Routes id) [] w refl e in
    let a = k.after_put in
    subst (Ends n pt) (said k.next k.rest k.on ∙ k.end)
    (record {
      grows = grows_on pt.view mid.view k.next.view g a.grows;
      still = still_on pt.view mid.view k.next.view s a.still;
      under = inr (subst (Under (n + 1)) (sym a.kernel) under, puts_before pt.view mid.view k.next.view g a.puts);
    })

-- the topic is no part of it
pub ends : (ps : List Part) (n : ℕ) (pt : Point) (w : Spelled) → spelled pt ps ≡ Some w → Paid pt.kernel ps → Under n pt.kernel → Ends n pt w.point
ends [] n pt w e paid under = subst (Ends n pt) (said pt w e) (record { grows = grows_same pt.view pt.view refl; still = record { moves = refl; incoming = λ m p s e. e; forward = λ m p k j e. e }; under = inl under })
ends (Says l ∷ ps) n pt w e paid under =
    let k = says_next pt l ps w e in
    let g = seen_grows pt.kernel pt.view l in
    let s : Still pt.view (seen pt.kernel pt.view l) = let h = line_still pt.view l paid.0 in record { moves = h.moves; incoming = h.incoming; forward = h.forward } in
    subst (Ends n pt) k.point
    (elim (paid.1 k.s k.is) [
      | inl h ↦ ends_before n pt (moved pt l k.s) k.rest.point g s (ends ps n (moved pt l k.s) k.rest k.more h.1 (under_within n 0 n pt.kernel k.s (omega arith) h.0 under))
      | inr h ↦ pays n pt (moved pt l k.s) h.1.0 k.rest g s (under_within n 1 (n + 1) pt.kernel k.s (omega arith) h.0 under) (ap (spelled (moved pt l k.s)) (sym h.1.1) ∙ k.more)
    ])
ends (Transmits a c l ∷ ps) n pt w e paid under =
    let k = transmits_next pt a c l ps w e in
    let p = packet_line pt.view a c l in
    subst (Ends n pt) k.point
    (ends_before n pt (moved pt p pt.kernel) k.rest.point (line_grows pt.view p) (line_still pt.view p refl) (ends ps n (moved pt p pt.kernel) k.rest k.more paid under))
ends (p ∷ ps) n pt w e paid under =
    let k = part_next pt p ps w refl e in
    let same = k.after_put.kernel in
    subst (Ends n pt) k.end (ends_before n pt k.next k.rest.point k.after_put.grows k.after_put.still (ends ps n k.next k.rest k.on (subst (λ s. Paid s ps) (sym same) paid) (subst (Under n) (sym same) under)))

-- parts without a step
pub record BearEnds (pt end : Point) : Type 0 where
  pub kernel : end.kernel ≡ pt.kernel
  pub grows : Grows pt.view end.view
  pub moves : end.view.moves ≡ pt.view.moves

bears_before : (pt mid end : Point) → mid.kernel ≡ pt.kernel → Grows pt.view mid.view → mid.view.moves ≡ pt.view.moves → BearEnds mid end → BearEnds pt end
bears_before pt mid end k g m h = record { kernel = h.kernel ∙ k; grows = grows_on pt.view mid.view end.view g h.grows; moves = h.moves ∙ m }

same_kernel : (s t : OneKernel) (o : Option Label) → o ≡ None → kernel_after s o ≡ Some t → t ≡ s
same_kernel s t o e f = grind (arith, nat_tests)

pub bear_ends : (ps : List Part) (pt : Point) (w : Spelled) → spelled pt ps ≡ Some w → AllBear ps → BearEnds pt w.point
bear_ends [] pt w e h = subst (BearEnds pt) (said pt w e) (record { kernel = refl; grows = grows_same pt.view pt.view refl; moves = refl })
bear_ends (Says l ∷ ps) pt w e h =
    let k = says_next pt l ps w e in
    subst (BearEnds pt) k.point (bears_before pt (moved pt l k.s) k.rest.point (same_kernel pt.kernel k.s (label_of l) (grind (arith, nat_tests, h.0)) k.is)
    (seen_grows pt.kernel pt.view l) (let e_ : (view_after pt.view l).moves ≡ pt.view.moves = grind (arith, nat_tests, h.0) in e_) (bear_ends ps (moved pt l k.s) k.rest k.more h.1))
bear_ends (Transmits a c l ∷ ps) pt w e h =
    let k = transmits_next pt a c l ps w e in
    let p = packet_line pt.view a c l in
    subst (BearEnds pt) k.point (bears_before pt (moved pt p pt.kernel) k.rest.point refl (line_grows pt.view p) refl (bear_ends ps (moved pt p pt.kernel) k.rest k.more h))
bear_ends (p ∷ ps) pt w e h = let k = part_next pt p ps w refl e in let a = k.after_put in subst (BearEnds pt) k.end (bears_before pt k.next k.rest.point a.kernel a.grows a.still.moves (bear_ends ps k.next k.rest k.on h))

pub own_puts : (ps : List Part) (pt : Point) (w : Spelled) → spelled pt ps ≡ Some w → AllBear ps → HasOwn ps → PutsOne pt.view w.point.view
own_puts [] pt w e h own = absurd own
own_puts (Says l ∷ ps) pt w e h own =
    let k = says_next pt l ps w e in
    subst (λ (q : Point). PutsOne pt.view q.view) k.point (puts_before pt.view (seen pt.kernel pt.view l) k.rest.point.view (seen_grows pt.kernel pt.view l) (own_puts ps (moved pt l k.s) k.rest k.more h.1 own))
own_puts (Owns c q b ∷ ps) pt w e h own =
    let k = part_next pt (Owns c q b) ps w refl e in
    subst (λ (r : Point). PutsOne pt.view r.view) k.end (puts_behind pt.view k.next.view k.rest.point.view (bear_ends ps k.next k.rest k.on h).grows k.after_put.puts)
own_puts (Transmits a c l ∷ ps) pt w e h own =
    let k = transmits_next pt a c l ps w e in
    let p = packet_line pt.view a c l in
    subst (λ (q : Point). PutsOne pt.view q.view) k.point (puts_before pt.view (view_after pt.view p) k.rest.point.view (line_grows pt.view p) (own_puts ps (moved pt p pt.kernel) k.rest k.more h own))
own_puts (p ∷ ps) pt w e h own = let k = part_next pt p ps w refl e in subst (λ (q : Point). PutsOne pt.view q.view) k.end (puts_before pt.view k.next.view k.rest.point.view k.after_put.grows (own_puts ps k.next k.rest k.on h own))
