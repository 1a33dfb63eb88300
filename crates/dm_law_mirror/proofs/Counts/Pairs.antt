-- Which lines leave what has moved, comes or has gone on.
use Rattle.dm_law_mirror.proofs.Names.{actor, is_server}
use Rattle.dm_law_always.specs.Sizes.{server_size}
use Rattle.dm_law_mirror.proofs.Names.{◌≡◌, ◌≢◌, ◌⊎◌, inl, inr, ℕ, ◌+◌, ◌<◌, ◌≤◌, ◌==◌, ◌&&◌, Bool, true, false, List, [], ◌∷◌, ◌++◌, length, drop, refl, ap, ◌∙◌, sym, subst, arith, if◌then◌else◌, slice_get, Option, None, Some, cases_Bool}
use Rattle.dm_law_mirror.proofs.Names.{false≢true, nat_tests, Pid, MsgId, MessageKind, plain_kind, PlainMessage, Boot, id_eq-same, bind-is, Step, Line, Load, Receiver, IsStep, Says, Routes, Again, Owns, Transmits, Spelled, goes_out}
use Rattle.dm_law_mirror.proofs.Names.{packet_line, puts, spelled, Point, after, moved, group_of, Spot, Untaken, standing, times, View, Pair, after_put, gone_after, is_kernels, own_id, view_after, routed_on, migrates, to_of, machine_of, Pairs}
use Rattle.dm_law_mirror.proofs.Names.{pair_stands, IsNet, IsNetLine, arrives_net, group_is, resends_net, stands_right, AllFit, onward, pair_same, migrates_fit, turns_fit, said, says_next, transmits_next, Run, told_there, cases_zero, own_by}
use Rattle.dm_law_mirror.proofs.Names.{taken_pair, OneKernel, after_line, kernel_after, label_of, is_own, hushed, is_put, Stage, About, first_number, Alive, PlainProcess, proto_acting, queued_acting, held_acting, forwarded_acting, acting_label}
use Rattle.dm_law_mirror.proofs.Names.{seen, calls_off_fit}
use Rattle.dm_law_rule.proofs.Names.{Part, marked}
use Rattle.dm_law_rule.proofs.Lines.{parts}
pub use Rattle.dm_law_rule.proofs.Lines.{eq_is as same_of}
use Rattle.dm_law_mirror.proofs.Totals.{ids_of, Grows, line_grows, put_adds, total, total_adds, total_grows}
pub use Rattle.dm_law_mirror.proofs.Puts.{ids_if as set_ids}
use Rattle.dm_law_rule.specs.Rule as rule
use Rattle.dm_law_rule.specs.Migrating as migrating
use Rattle.dm_law_rule.specs.View as view

-- a process comes, has gone on or moves again by these alone
abbrev pub is_free : Line → Bool
is_free (Line.Migration Stage.Accepted p) = false
is_free (Line.Migration Stage.Left p) = false
is_free (Line.Migration Stage.Restarted p) = false
is_free (Line.Called p n) = false
is_free _ = true

-- no step of the kernel, and no process has moved
abbrev pub bears : Line → Bool
bears (Line.Label x) = false
bears (Line.Migration Stage.Restarted p) = false
bears _ = true

pub record Still (v w : View) : Type 0 where
  pub moves : w.moves ≡ v.moves
  pub incoming : (m : ℕ) (p : Pid) (s : ℕ) → w.known m p ≡ view.Incoming s → v.known m p ≡ view.Incoming s
  pub forward : (m : ℕ) (p : Pid) (k j : ℕ) → w.known m p ≡ view.Forward k j → v.known m p ≡ view.Forward k j

pub still_on : (u v w : View) → Still u v → Still v w → Still u w
still_on u v w h k = record { moves = k.moves ∙ h.moves; incoming = λ m p s e. h.incoming m p s (k.incoming m p s e); forward = λ m p c j e. h.forward m p c j (k.forward m p c j e) }

pub line_still : (v : View) (l : Line) → is_free l ≡ true → Still v (view_after v l)
line_still v l free = record {
  moves = grind (arith, nat_tests);
  incoming = λ m p s is. grind (arith, nat_tests);
  forward = λ m p k j is. grind (arith, nat_tests);
}

-- No count is too great.

pub record CountsFew (pt : Point) : Type 0 where
  pub sent : (p : Pid) (x : PlainProcess) → pt.kernel.processes p ≡ Some (Alive x) → x.sent < 4294967295
  pub board : pt.kernel.switchboard.sent < 4294967295
  pub manager : pt.kernel.manager.sent < 4294967295
  pub children : length pt.kernel.manager.children < 4294967295
  pub made : (home : ℕ) → first_number + pt.kernel.made home < 4294967295
  -- what an update looks through
  pub names : length pt.kernel.switchboard.names < 2147483648
  pub managed : length pt.kernel.manager.children + length pt.kernel.manager.pending < 2147483648
  -- the messages of a machine's own kernel, and one more to each machine, how often a process has moved, and what waits for one
  pub own : (m : ℕ) → pt.view.count m + 16 ≤ 4294967295
  pub moves : (p : Pid) → pt.view.moves p < 4294967295
  pub waiting : (m : ℕ) (p : Pid) → length (pt.view.queue m p) + length (pt.view.held m p) < 4294967295
  -- how large a server is
  pub sizes : (p : Pid) → is_server p ≡ true → server_size pt.kernel p < 2147483648

-- The acting machine stays, but for heads and what comes over wires.

-- A machine's kernel counts no more messages of its own than were routed in all.

-- only pairs of the first n machines have messages
abbrev pub PairsWithin : ℕ → View → Type 0
PairsWithin n v = (a c : ℕ) → 1 ≤ ids_of v a c → (a < n) × (c < n)

pub within_before : (n : ℕ) (v w : View) → Grows v w → PairsWithin n w → PairsWithin n v
within_before n v w g h = λ a c some. h a c (let k = g.ids a c in omega (arith, some, k))

-- what each line keeps, each group keeps
pub after_keeps : (P : View → Type 0) → ((v : View) (a : About) → P v → P (view.about v a)) → ((v : View) (l : Line) → P v → P (view_after v l)) → (ls : List Line) (pt next : Point) → after pt ls ≡ Some next → P pt.view → P next.view
after_keeps P topic keep [] pt next e h = let f : pt ≡ next = cc in subst (λ (q : Point). P q.view) f h
after_keeps P topic keep (l ∷ ls) pt next e h =
    let (mid, first, rest) = bind-is (after_line pt l) (λ n. after n ls) next e in
    let (s, is, last) = bind-is (kernel_after pt.kernel (label_of l)) (λ (s : OneKernel). Some (moved pt l s)) mid first in
    let f : moved pt l s ≡ mid = cc in
    after_keeps P topic keep ls mid next rest (subst (λ (q : Point). P q.view) f (topic (view_after pt.view l) (seen pt.kernel pt.view l).topic (keep pt.view l h)))

pub parts_keep : (P : View → Type 0) → ((v : View) (a : About) → P v → P (view.about v a)) → ((v : View) (l : Line) → P v → P (view_after v l))
    → (ps : List Part) (pt : Point) (w : Spelled) → spelled pt ps ≡ Some w → P pt.view → P w.point.view
parts_keep P topic keep [] pt w e h = subst (λ (q : Point). P q.view) (said pt w e) h
parts_keep P topic keep (p ∷ ps) pt w e h =
    let o = onward pt p ps w e in
    subst (λ (q : Point). P q.view) o.end (parts_keep P topic keep ps o.next o.rest o.on (after_keeps P topic keep o.lines pt o.next o.leads h))

pub group_keeps : (P : View → Type 0) → ((v : View) (a : About) → P v → P (view.about v a)) → ((v : View) (l : Line) → P v → P (view_after v l))
    → (b : Boot) (pt : Point) (d : Step) (w : Spelled) → group_of b pt d ≡ Some w → P pt.view → P w.point.view
group_keeps P topic keep b pt d w e h =
    let g = group_is b pt d w e in
    subst (λ (q : Point). P q.view) g.point (parts_keep P topic keep g.parts (moved pt (Line.Head d) pt.kernel) g.rest g.said (keep pt.view (Line.Head d) h))

-- a put counts at most one
abbrev pub OwnFew : ℕ → View → Type 0
OwnFew n v = PairsWithin n v → (m : ℕ) → v.count m ≤ total v n

count_if : (f : ℕ → ℕ) (home m : ℕ) (own : Bool) → (if own then (λ (k : ℕ). if home == k then f home + 1 else f k) else f) m ≤ f m + 1
count_if f home m own = grind (arith, nat_tests)

pub put_total : (n : ℕ) (v : View) (a b : ℕ) (i : MsgId) (k : MessageKind) (q : Pid) → PairsWithin n (after_put v a b i k q) → total v n + 1 ≤ total (after_put v a b i k q) n
put_total n v a b i k q within =
    let adds = put_adds v a b i k q in
    let at_ = within a b (omega (arith, adds)) in
    total_adds v (after_put v a b i k q) n a b (line_grows v (Line.Put a b i k q)) at_.0 at_.1 (omega (arith, adds))

still_own : (n : ℕ) (v : View) (l : Line) → is_put l ≡ false → OwnFew n v → OwnFew n (view_after v l)
still_own n v l off h = λ within m.
    let g = line_grows v l in
    omega (arith, ap (λ (f : ℕ → ℕ). f m) (hushed v l off).count, h (within_before n v (view_after v l) g within) m, total_grows v (view_after v l) n g)

pub line_own : (top : ℕ) (v : View) (l : Line) → OwnFew top v → OwnFew top (view_after v l)
line_own top v (Line.Put a b i k q) h = λ within m.
    omega (arith, h (within_before top v (after_put v a b i k q) (line_grows v (Line.Put a b i k q)) within) m, count_if v.count i.from.home m (is_own i (v.told i)), put_total top v a b i k q within)
line_own top v any_ h = still_own top v any_ refl h

-- Only pairs of machines that there are have messages.

-- a pair that had no message before has it from the acting machine, which it goes to at once, or it isn't taken yet
pub record Fresh (u : View) (m : ℕ) (v : View) : Type 0 where
  pub acting : v.acting ≡ m
  pub new : (a c : ℕ) → 1 ≤ ids_of v a c → (1 ≤ ids_of u a c) ⊎ ((a ≡ m) × ((a ≡ c) ⊎ ((v.pair a c).taken ≡ 0)))
  -- and a pair that had none has taken none
  pub none : (a c : ℕ) → ids_of u a c ≡ 0 → a ≢ c → (v.pair a c).taken ≡ 0

fresh_same : (u : View) (m : ℕ) (v w : View) → w.acting ≡ v.acting → w.pair ≡ v.pair → Fresh u m v → Fresh u m w
fresh_same u m v w acting pair h = record {
  acting = acting ∙ h.acting;
  new = subst (λ (f : ℕ → ℕ → Pair). (a c : ℕ) → 1 ≤ length (f a c).ids → (1 ≤ ids_of u a c) ⊎ ((a ≡ m) × ((a ≡ c) ⊎ ((f a c).taken ≡ 0)))) (sym pair) h.new;
  none = subst (λ (f : ℕ → ℕ → Pair). (a c : ℕ) → ids_of u a c ≡ 0 → a ≢ c → (f a c).taken ≡ 0) (sym pair) h.none;
}

set_taken : (f : ℕ → ℕ → Pair) (a b : ℕ) (p : Pair) (c d : ℕ) (t : Bool) → ((a == c) && (b == d)) ≡ t → (a ≢ b → p.taken ≡ (f a b).taken) → c ≢ d → (if t then p else f c d).taken ≡ (f c d).taken
set_taken f a b p c d t e h off = grind (arith, nat_tests, parts, same_of)

put_taken : (v : View) (a b : ℕ) (i : MsgId) → a ≢ b → (routed_on a b (v.pair a b) i).taken ≡ (v.pair a b).taken
put_taken v a b i off = grind (arith, nat_tests, same_of)

-- either way a pair's messages came before, or from the acting machine
fresh_by : (u : View) (m : ℕ) (v w : View) (a : ℕ) → Fresh u m v → w.acting ≡ v.acting → a ≡ m → ((c d : ℕ) → c ≢ d → (w.pair c d).taken ≡ (v.pair c d).taken) → ((c d : ℕ) → c ≢ a → ids_of w c d ≡ ids_of v c d) → Fresh u m w
fresh_by u m v w a h acting from taken others =
    let none : (c d : ℕ) → ids_of u c d ≡ 0 → c ≢ d → (w.pair c d).taken ≡ 0 = λ c d z off. taken c d off ∙ h.none c d z off in
    record {
      acting = acting ∙ h.acting;
      new = λ c d some. elim (cases_zero (ids_of u c d)) [
        | inr had ↦ inl had
        | inl z ↦ elim (cases_Bool (c == m)) [
          | inl here ↦ elim (cases_Bool (c == d)) [
            | inl home ↦ inr (same_of c m here, inl (same_of c d home))
            | inr off ↦ inr (same_of c m here, inr (none c d z (λ same. false≢true (sym off ∙ (let t : (c == d) ≡ true = grind (arith, nat_tests) in t)))))
          ]
          | inr off ↦
              let apart : c ≢ a = λ same. false≢true (sym off ∙ (let t : (c == m) ≡ true = grind (arith, nat_tests) in t)) in
              elim (h.new c d (omega (arith, others c d apart, some))) [ inl had ↦ inl had | inr way ↦ absurd (apart (way.0 ∙ sym from)) ]
        ]
      ];
      none = none;
    }

pub fresh_put : (u : View) (m : ℕ) (v : View) (b : ℕ) (i : MsgId) (k : MessageKind) (q : Pid) → Fresh u m v → Fresh u m (after_put v v.acting b i k q)
fresh_put u m v b i k q h =
    fresh_by u m v (after_put v v.acting b i k q) v.acting h refl h.acting
    (λ c d off. set_taken v.pair v.acting b (routed_on v.acting b (v.pair v.acting b) i) c d ((v.acting == c) && (b == d)) refl (λ apart. put_taken v v.acting b i apart) off)
    (λ c d off. ap (λ (ids : List MsgId). length ids) (let e_ : (if (v.acting == c) && (b == d) then (routed_on v.acting b (v.pair v.acting b) i) else v.pair c d).ids ≡ (v.pair c d).ids = grind (arith, nat_tests, same_of) in e_))

fresh_packet : (u : View) (m : ℕ) (v : View) (a b k : ℕ) (l : Load) → Fresh u m v → Fresh u m (view_after v (Line.Packet a b k l))
fresh_packet u m v a b k l h =
    let p : Pair = record (v.pair a b) { gone = gone_after l (v.pair a b).gone; wire = (v.pair a b).wire ++ record { load = l; delivered = false } ∷ [] } in
    fresh_by u m v (view_after v (Line.Packet a b k l)) m h refl refl
    (λ c d off. set_taken v.pair a b p c d ((a == c) && (b == d)) refl (λ apart. refl) off)
    (λ c d off. ap (λ (ids : List MsgId). length ids) (set_ids v.pair a b p c d ((a == c) && (b == d)) refl refl))

-- parts of a turn
fresh_rest : (u : View) (m : ℕ) (pt next : Point) (a b k : ℕ) (l : Load) (home out : Bool) → Fresh u m pt.view → after pt (if home then [] else if out then Line.Packet a b k l ∷ [] else []) ≡ Some next → Fresh u m next.view
fresh_rest u m pt next a b k l true out h e = let f : pt ≡ next = cc in subst (λ (q : Point). Fresh u m q.view) f h
fresh_rest u m pt next a b k l false false h e = let f : pt ≡ next = cc in subst (λ (q : Point). Fresh u m q.view) f h
fresh_rest u m pt next a b k l false true h e =
    let f : moved pt (Line.Packet a b k l) pt.kernel ≡ next = cc in
    subst (λ (q : Point). Fresh u m q.view) f (fresh_packet u m pt.view a b k l h)

fresh_puts : (u : View) (m : ℕ) (pt next : Point) (b : ℕ) (i : MsgId) (k : MessageKind) (q : Pid) (ls : List Line) → Some (puts pt.view b i k q) ≡ Some ls → after pt ls ≡ Some next → Fresh u m pt.view → Fresh u m next.view
fresh_puts u m pt next b i k q ls is e h =
    let f : puts pt.view b i k q ≡ ls = cc in
    let a = pt.view.acting in
    fresh_rest u m (moved pt (Line.Put a b i k q) pt.kernel) next a b (length (pt.view.pair a b).wire) (Load.Data (length (pt.view.pair a b).ids)) (a == b) (goes_out (pt.view.pair a b)) (fresh_put u m pt.view b i k q h) (ap (after pt) f ∙ e)

fresh_parts : (ps : List Part) (f : ℕ → ℕ → Pair) (u : View) (m : ℕ) (pt : Point) (w : Spelled) → AllFit f ps → spelled pt ps ≡ Some w → Fresh u m pt.view → Fresh u m w.point.view
fresh_parts [] f u m pt w fits e h = subst (λ (q : Point). Fresh u m q.view) (said pt w e) h
fresh_parts (Says l ∷ ps) f u m pt w fits e h =
    let k = says_next pt l ps w e in
    let line_acting : (view_after pt.view l).acting ≡ pt.view.acting = grind (arith, nat_tests, acting_label, queued_acting, held_acting, forwarded_acting, proto_acting, fits.0) in
    subst (λ (q : Point). Fresh u m q.view) k.point (fresh_parts ps f u m (moved pt l k.s) k.rest fits.1 k.more (fresh_same u m pt.view (seen pt.kernel pt.view l) line_acting (pair_same pt.view l fits.0) h))
fresh_parts (Routes i ∷ ps) f u m pt w fits e h =
    let o = onward pt (Routes i) ps w e in
    let (x, there, is) = bind-is (pt.kernel.bag i) (λ x. Some (puts pt.view (pt.addresses (Receiver i)).at i (plain_kind x.what) x.to)) o.lines o.lines_are in
    subst (λ (q : Point). Fresh u m q.view) o.end (fresh_parts ps f u m o.next o.rest fits.1 o.on (fresh_puts u m pt o.next (pt.addresses (Receiver i)).at i (plain_kind x.what) x.to o.lines is o.leads h))
fresh_parts (Again i b ∷ ps) f u m pt w fits e h =
    let o = onward pt (Again i b) ps w e in
    let (t, there, is) = bind-is (pt.view.told i) (λ t. Some (puts pt.view b i t.kind t.receiver)) o.lines o.lines_are in
    subst (λ (q : Point). Fresh u m q.view) o.end (fresh_parts ps f u m o.next o.rest fits.1 o.on (fresh_puts u m pt o.next b i t.kind t.receiver o.lines is o.leads h))
fresh_parts (Owns k q b ∷ ps) f u m pt w fits e h =
    let o = onward pt (Owns k q b) ps w e in
    subst (λ (r : Point). Fresh u m r.view) o.end (fresh_parts ps f u m o.next o.rest fits.1 o.on (fresh_puts u m pt o.next b (own_id pt.view) k q o.lines o.lines_are o.leads h))
fresh_parts (Transmits a c l ∷ ps) f u m pt w fits e h =
    let k = transmits_next pt a c l ps w e in
    subst (λ (q : Point). Fresh u m q.view) k.point (fresh_parts ps f u m (moved pt (packet_line pt.view a c l) pt.kernel) k.rest fits.1 k.more (fresh_packet u m pt.view a c (length (pt.view.pair a c).wire) l h))

-- nothing was put yet
fresh_start : (u v : View) (m : ℕ) → v.acting ≡ m → v.pair ≡ u.pair → Pairs u → Fresh u m v
fresh_start u v m acting pair h = record {
  acting = acting;
  new = λ a c some. inl (let e = ap (λ (f : ℕ → ℕ → Pair). length (f a c).ids) pair in omega (arith, some, e));
  none = λ a c z off.
      let k = pair_stands u a c off h in
      let taken = k.taken in let gone = k.gone in
      ap (λ (f : ℕ → ℕ → Pair). (f a c).taken) pair ∙ (let t : (u.pair a c).taken ≡ 0 = omega (arith, z, taken, gone) in t);
}

-- so each pair with messages is one of machines that there are
first_of : (ids : List MsgId) → 1 ≤ length ids → (i : MsgId) × (1 ≤ times i ids)
first_of [] some = absurd (omega (arith, some))
first_of (i ∷ is) some = (i, let e : times i (i ∷ is) ≡ 1 + times i is = ap (λ (c : Bool). (if c then 1 else 0) + times i is) (id_eq-same i) in omega (arith, e))

address_within : (b : Boot) (pt : Point) (i : MsgId) (z : Spot) (o : Option PlainMessage) → pt.kernel.bag i ≡ o → Run b pt → 1 ≤ standing pt.view i z → (pt.addresses (Receiver i)).at < pt.kernel.machines
address_within b pt i z (Some x) there run stands = run.found.within (Receiver i) x.to (ap to_of there)
address_within b pt i z None there run stands =
    let (t, told) = told_there (pt.view.told i) (run.found.told i z stands) in
    run.found.own_within i t told (own_by (is_kernels i) (standing pt.view i) z stands (stands_right pt i run.based.phased.state None there))

fresh_within : (b : Boot) (u : View) (m n : ℕ) (end : Point) → end.kernel.machines ≡ n → m < n → Run b end → Fresh u m end.view → PairsWithin n u → PairsWithin n end.view
fresh_within b u m n end machines small run h within = λ a c some.
    elim (h.new a c some) [
      | inl had ↦ within a c had
      | inr way ↦
          let left : a < n = omega (arith, way.0, small) in
          elim way.1 [
            | inl home ↦ (left, omega (arith, left, home))
            | inr none ↦
                let (i, first) = first_of (end.view.pair a c).ids some in
                let stands : 1 ≤ standing end.view i (Untaken a c) = subst (λ (k : ℕ). 1 ≤ times i (drop k (end.view.pair a c).ids)) (sym none) first in
                (left, omega (arith, (let e_ : machine_of (Untaken a c) < end.kernel.machines = omega (arith, address_within b end i (Untaken a c) (end.kernel.bag i) refl run stands, run.found.at_ i (Untaken a c) stands) in e_), machines))
          ]
    ]

pub net_ids : (v : View) (l : Line) → IsNetLine l → (a c : ℕ) → ((view_after v l).pair a c).ids ≡ (v.pair a c).ids
net_ids v l h a c = grind (arith, nat_tests, taken_pair, set_ids)

pub line_ids : (v : View) (l : Line) → is_put l ≡ false → (x y : ℕ) → ((view_after v l).pair x y).ids ≡ (v.pair x y).ids
line_ids v l e x y = grind (arith, nat_tests, set_ids, net_ids, pair_same)

net_parts : (ps : List Part) (pt : Point) (w : Spelled) → IsNet ps → spelled pt ps ≡ Some w → (a c : ℕ) → (w.point.view.pair a c).ids ≡ (pt.view.pair a c).ids
net_parts [] pt w h e a c = ap (λ (q : Point). (q.view.pair a c).ids) (sym (said pt w e))
net_parts (Says l ∷ ps) pt w h e a c =
    let k = says_next pt l ps w e in
    ap (λ (q : Point). (q.view.pair a c).ids) (sym k.point) ∙ net_parts ps (moved pt l k.s) k.rest h.1 k.more a c ∙ net_ids pt.view l h.0 a c
net_parts (Transmits x y l ∷ ps) pt w h e a c =
    let k = transmits_next pt x y l ps w e in
    let p : Pair = record (pt.view.pair x y) { gone = gone_after l (pt.view.pair x y).gone; wire = (pt.view.pair x y).wire ++ record { load = l; delivered = false } ∷ [] } in
    ap (λ (q : Point). (q.view.pair a c).ids) (sym k.point) ∙ net_parts ps (moved pt (packet_line pt.view x y l) pt.kernel) k.rest h.1 k.more a c ∙ set_ids pt.view.pair x y p a c ((x == a) && (y == c)) refl refl
net_parts _ pt w h e a c = absurd h.0

ids_within : (n : ℕ) (v w : View) → ((a c : ℕ) → (w.pair a c).ids ≡ (v.pair a c).ids) → PairsWithin n v → PairsWithin n w
ids_within n v w same h = λ a c some. h a c (let e = ap (λ (ids : List MsgId). length ids) (same a c) in omega (arith, some, e))

-- each group
pub within_group : (b : Boot) (pt : Point) (d : Step) (w : Spelled) (n : ℕ) → 0 < n → pt.kernel.machines ≡ n → w.point.kernel.machines ≡ n → IsStep n d → group_of b pt d ≡ Some w → Pairs pt.view → actor pt.view d < n → Run b w.point → PairsWithin n pt.view → PairsWithin n w.point.view
within_group b pt (Step.Turn m) w n some same after_ fit e pairs acts run h =
    let g = group_is b pt (Step.Turn m) w e in
    let start = moved pt (Line.Head (Step.Turn m)) pt.kernel in
    let fresh = fresh_parts g.parts pt.view.pair pt.view m start g.rest (turns_fit pt.view.pair b pt m (pt.view.inbox m) g.parts g.is) g.said (fresh_start pt.view start.view m refl refl pairs) in
    fresh_within b pt.view m n w.point after_ fit run (subst (λ (q : Point). Fresh pt.view m q.view) g.point fresh) h
within_group b pt (Step.Tick m) w n some same after_ fit e pairs acts run h =
    let g = group_is b pt (Step.Tick m) w e in
    let qs = Says (Line.Resent m (rule.outstanding_count pt.view m pt.kernel.machines)) ∷ rule.resends pt.view m pt.kernel.machines in
    let f : qs ≡ g.parts = let k = g.is in cc in
    let start = moved pt (Line.Head (Step.Tick m)) pt.kernel in
    subst (λ (q : Point). PairsWithin n q.view) g.point
    (ids_within n pt.view g.rest.point.view (λ a c. net_parts qs start g.rest (tt, resends_net pt.view m pt.kernel.machines) (ap (spelled start) f ∙ g.said) a c) h)
within_group b pt (Step.Deliver a c k) w n some same after_ fit e pairs acts run h =
    let g = group_is b pt (Step.Deliver a c k) w e in
    let there = slice_get (pt.view.pair a c).wire k in
    let qs = rule.arrives a c (pt.view.pair a c) (pt.view.pair c a) there in
    let f : qs ≡ g.parts = let t = g.is in cc in
    let start = moved pt (Line.Head (Step.Deliver a c k)) pt.kernel in
    subst (λ (q : Point). PairsWithin n q.view) g.point (ids_within n pt.view g.rest.point.view
    (λ x y. net_parts qs start g.rest (arrives_net a c (pt.view.pair a c) (pt.view.pair c a) there) (ap (spelled start) f ∙ g.said) x y ∙ set_ids pt.view.pair a c (marked (pt.view.pair a c) k) x y ((a == x) && (c == y)) refl refl) h)
within_group b pt (Step.Migrate p m) w n some same after_ fit e pairs acts run h =
    let g = group_is b pt (Step.Migrate p m) w e in
    let f : migrates pt p ≡ g.parts = let k = g.is in cc in
    let start = moved pt (Line.Head (Step.Migrate p m)) pt.kernel in
    let fresh = fresh_parts (migrates pt p) pt.view.pair pt.view (actor pt.view (Step.Migrate p m)) start g.rest (migrates_fit pt.view.pair pt p) (ap (spelled start) f ∙ g.said) (fresh_start pt.view start.view (actor pt.view (Step.Migrate p m)) refl refl pairs) in
    fresh_within b pt.view (actor pt.view (Step.Migrate p m)) n w.point after_ acts run (subst (λ (q : Point). Fresh pt.view (actor pt.view (Step.Migrate p m)) q.view) g.point fresh) h
within_group b pt (Step.CallOff p m) w n some same after_ fit e pairs acts run h =
    let g = group_is b pt (Step.CallOff p m) w e in
    let qs = migrating.calls_off pt m p (pt.view.known m p) in
    let f : qs ≡ g.parts = let k = g.is in cc in
    let start = moved pt (Line.Head (Step.CallOff p m)) pt.kernel in
    let fresh = fresh_parts qs pt.view.pair pt.view m start g.rest (calls_off_fit pt.view.pair pt m p) (ap (spelled start) f ∙ g.said) (fresh_start pt.view start.view m refl refl pairs) in
    fresh_within b pt.view m n w.point after_ fit run (subst (λ (q : Point). Fresh pt.view m q.view) g.point fresh) h
