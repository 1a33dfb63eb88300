-- Each line that is said where it belongs keeps all of it: addresses, rings and lists; so do the parts of a group.
use Rattle.dm_law_rule.proofs.Names.{◌≡◌, ℕ, ◌+◌, ◌≤◌, ◌==◌, ◌&&◌, Bool, true, false, List, [], ◌∷◌, length, refl, ap, ◌∙◌, sym, subst, is_some, arith, nat_le, if◌then◌else◌, Option, None, Some, nat_tests, Pid, Place, MsgId, MessageKind}
use Rattle.dm_law_rule.proofs.Names.{plain_kind, PlainMessage, Boot, Label, IsValid, OneKernel, entry, in_bag, reception, Sound, bind-is, after_step, start-sound, Line, Load, untaken, View, Pair, Told, after_label, after_put, handled, are_home}
use Rattle.dm_law_rule.proofs.Names.{PlainWhat, BootProcess, known_at, Addresses, Receiver, Gets, given, own_given, first_gives, Point, first_point, after, after_line, moved, Routes, lines_of, puts, packet_line, goes_out, act_of, addresses_by}
use Rattle.dm_law_rule.proofs.Names.{Homes, is_for_home, gives, topic_by, About, sort_of, moved_back, without, served_told, ends_by, none_some}
use Rattle.std.proofs.Common.{is_none}
use Rattle.dm_law_rule.proofs.Homes.{IsHome, AtHome, homes_are}
use Rattle.dm_law_rule.proofs.Homes.Start.{start_at_home, Homes-start}
use Rattle.dm_law_rule.proofs.Homes.Labels.{SaidAt, RingsHome, is_still, rings_same, rings_set, known_set, preds_none, without_home, joins_home, label_home}
use Rattle.dm_law_rule.proofs.Homes.Lists.{stands, ListsHome, Old, label_lists, pair_set, are_for, inbox_set, all_stand_last, routed_stands, stand_on, all_stand}
use Rattle.dm_onekernel.specs.Step as kernel
use Rattle.dm_law_rule.specs.View as view

-- a step leaves a message of the bag as it is, or takes it out
abbrev pub NoneReplaced : Type 0
NoneReplaced = (r e : MsgId → ℕ) (s t : OneKernel) (l : Label) → kernel.step s l ≡ Some t → Sound r e s → (i : MsgId) (x y : PlainMessage) → s.bag i ≡ Some x → t.bag i ≡ Some y → x ≡ y

-- all that holds as long as nothing moves, with the receptions and entries so far
pub record Home (r e : MsgId → ℕ) (pt : Point) : Type 0 where
  pub sound : Sound r e pt.kernel
  pub at : AtHome IsHome pt.kernel pt.addresses
  pub rings : RingsHome pt.view
  pub lists : ListsHome pt.kernel e pt.view

pub homes_of : (r e : MsgId → ℕ) (pt : Point) → Home r e pt → Homes pt
homes_of r e pt h = record {
  home = homes_are IsHome pt.kernel pt.addresses h.at;
  moves = h.rings.moves;
  preds = h.rings.preds;
  ring = h.rings.ring;
  inbox = λ m. are_for pt.kernel e m (pt.view.inbox m) (h.lists.inbox m);
  queue = λ m p. are_for pt.kernel e m (pt.view.queue m p) (h.lists.queue m p);
  pending = h.at.pending;
  untaken = λ a m. are_for pt.kernel e m (untaken (pt.view.pair a m)) (h.lists.untaken a m);
}

start_known : (ps : List BootProcess) (m : ℕ) (q : Pid) → is_still (known_at ps m q) ≡ true
start_known [] m q = search arith
start_known (p ∷ ps) m q = search (arith, start_known ps m q)

pub home_start : (b : Boot) → IsValid b → Home (λ i. 0) (λ i. 0) (first_point b)
home_start b valid = search (arith, start-sound, start_at_home, Homes-start, start_known)

-- what is kept by what follows, on the same machine
pub record Kept (m : ℕ) (pt : Point) : Type 0 where
  pub r : MsgId → ℕ
  pub e : MsgId → ℕ
  pub home : Home r e pt
  pub acting : pt.view.acting ≡ m

old_of : (a b : Option PlainMessage) (e : ℕ) (x : PlainMessage) → nat_le 1 e ≡ true → e + (if is_none a && is_some b then 1 else 0) ≤ 1 → b ≡ Some x → ((y : PlainMessage) → a ≡ Some y → y ≡ x) → a ≡ Some x
old_of (Some y) b e x entered once there same = ap Some (same y refl)
old_of None None e x entered once there same = none_some x there
old_of None (Some z) e x entered once there same = absurd (let f : 1 ≤ e = grind (arith, nat_tests) in omega (arith, f, once))

-- a label
label_line : NoneReplaced → (r e : MsgId → ℕ) (pt : Point) (l : Label) (t : OneKernel) → kernel.step pt.kernel l ≡ Some t → SaidAt pt.kernel pt.view.acting l → Home r e pt
    → Home (λ i. r i + reception i l) (λ i. e i + entry i pt.kernel t) (moved pt (Line.Label l) t)
label_line none r e pt l t is at h =
    -- what a group is about changes none of it
    let told_rings : (v : View) (o : Option Told) → RingsHome v → RingsHome (served_told v o) =
    λ v o h1. let kills_rings : (v : View) (k : MessageKind) (o : Option Pid) → RingsHome v → RingsHome (ends_by (sort_of k) v o) = λ v k o h1. search (arith, rings_set, known_set, preds_none, without_home) in search (arith, kills_rings) in
    let label_rings : (s : OneKernel) (v : View) (l : Label) → SaidAt s v.acting l → RingsHome v → RingsHome (after_label v l) =
    let back_home : (v : View) (p : Pid) → p.home ≡ v.acting → RingsHome v → are_home v.acting (moved_back p (v.ring v.acting)) ≡ true =
    λ v p at h. joins_home v.acting p (without p (v.ring v.acting)) at (without_home v.acting p (v.ring v.acting) (h.ring v.acting)) in
    let dropped_rings : (v : View) (id : MsgId) (o : Option Pid) → RingsHome v → RingsHome (view.dropped_for v id o) =
    λ v id o h. elim o as (λ o_. RingsHome (view.dropped_for v id o_)) [ None ↦ h | Some p' ↦ record { moves = h.moves; ring = h.ring; known = h.known; preds = h.preds } ] in
    λ s v l h1 h2. search (arith, rings_set, back_home, known_set, preds_none, without_home, dropped_rings, told_rings, joins_home) in
    let lists_on : (s t : OneKernel) (e f : MsgId → ℕ) (v : View) → Old e s t → ((i : MsgId) → e i ≤ f i) → ListsHome s e v → ListsHome t f v = λ s t e f v old le h. search (arith, stand_on) in
    let topic_home : (r e : MsgId → ℕ) (s : OneKernel) (v : View) (t : About) (a : Addresses) → Home r e (record { kernel = s; view = v; addresses = a }) → Home r e (record { kernel = s; view = view.about v t; addresses = a }) =
    λ r e s v t a h. search arith in
    let a = after_step r e pt.kernel t l is h.sound in
    let old : Old e pt.kernel t = λ i x entered there. old_of (pt.kernel.bag i) (t.bag i) (e i) x entered (a.sound.entered.once i) there (λ y was. none r e pt.kernel t l is h.sound i y x was there) in
    topic_home (λ i. r i + reception i l) (λ i. e i + entry i pt.kernel t) t (after_label pt.view l) (topic_by pt.kernel (after_label pt.view l).topic (Some l)) (given pt.addresses (gives pt.kernel pt.view pt.addresses l))
    (record {
      sound = a.sound;
      at = label_home pt.kernel t pt.view pt.addresses l is h.sound.entered.named h.rings.moves at h.at;
      rings = label_rings pt.kernel pt.view l at h.rings;
      lists = lists_on pt.kernel t e (λ i. e i + entry i pt.kernel t) (after_label pt.view l) old (λ i. omega arith) (label_lists pt.kernel e pt.view l h.lists);
    })

pub acting_dropped : (v : View) (id : MsgId) (o : Option Pid) → (view.dropped_for v id o).acting ≡ v.acting
acting_dropped v id None = refl
acting_dropped v id (Some p) = refl

pub acting_label : (v : View) (l : Label) → (after_label v l).acting ≡ v.acting
acting_label v (Label.Dropped id) = acting_dropped (handled v id) id (view.receiver_of (v.told id))
acting_label v (Label.Served id) = let acting_kills : (v : View) (k : MessageKind) (o : Option Pid) → (view.ends_by (sort_of k) v o).acting ≡ v.acting = λ v k o. search arith in grind (arith, nat_tests, acting_kills)
acting_label v _ = refl

-- a pair whose messages stay
pub same_lists : (s : OneKernel) (e : MsgId → ℕ) (v : View) (a b : ℕ) (p : Pair) → p.ids ≡ (v.pair a b).ids → p.taken ≡ (v.pair a b).taken → ListsHome s e v → ListsHome s e (view.with_pair v a b p)
same_lists s e v a b p ids taken h = search (arith, pair_set)

pub packet_line_home : (r e : MsgId → ℕ) (pt : Point) (a b k : ℕ) (l : Load) → Home r e pt → Home r e (moved pt (Line.Packet a b k l) pt.kernel)
packet_line_home r e pt a b k l h = search (arith, rings_same, same_lists)

-- a message of the bag has its places from the label that sent it
pub own_none : (s : OneKernel) (v : View) (a : Addresses) (id : MsgId) (q : Pid) (w : PlainWhat) → own_given s v a id q (sort_of (plain_kind w)) ≡ []
own_none s v a id q (PlainWhat.User x1 x2 x3 x4) = refl
own_none s v a id q _ = refl

pub first_none : (o : Option Told) (gs : List Gets) → gs ≡ [] → first_gives o gs ≡ []
first_none None gs e = e
first_none (Some t) gs e = refl

-- a routed message
routed_home : (r e : MsgId → ℕ) (pt : Point) (id : MsgId) (m : PlainMessage) (b : ℕ) → pt.kernel.bag id ≡ Some m → b ≡ m.to.home → Home r e pt → Home r e (moved pt (Line.Put pt.view.acting b id (plain_kind m.what) m.to) pt.kernel)
routed_home r e pt id m b there is h =
    let w = after_put pt.view pt.view.acting b id (plain_kind m.what) m.to in
    let entered : 1 ≤ e id = omega (arith, h.sound.entered.fewer id, ap in_bag there) in
    let second : is_for_home b (pt.kernel.bag id) ≡ true = ap (is_for_home b) there ∙ (let f : (m.to.home == b) ≡ true = grind (arith, nat_tests) in f) in
    let at : stands pt.kernel e b id ≡ true = ap (λ (c : Bool). c && is_for_home b (pt.kernel.bag id)) (let first : nat_le 1 (e id) ≡ true = grind (arith, nat_tests) in first) ∙ second in
    let inbox_if : (s : OneKernel) (e : MsgId → ℕ) (f g : ℕ → List MsgId) (c : Bool) → ((n : ℕ) → all_stand s e n (f n) ≡ true) → ((n : ℕ) → all_stand s e n (g n) ≡ true) → (n : ℕ) → all_stand s e n ((if c then f else g) n) ≡ true =
    λ s e f g c h k n. elim c as (λ c_. all_stand s e n ((if c_ then f else g) n) ≡ true) [ true ↦ h n | false ↦ k n ] in
    let put_lists : ListsHome pt.kernel e (after_put pt.view pt.view.acting b id (plain_kind m.what) m.to) = search (arith, inbox_if, inbox_set, all_stand_last, pair_set, routed_stands, h.lists) in
    let put_at_home : (s : OneKernel) (v : View) (a : Addresses) (from b : ℕ) (id : MsgId) (w : PlainWhat) (q : Pid) → AtHome IsHome s a → AtHome IsHome s (addresses_by s v a (act_of (Line.Put from b id (plain_kind w) q))) =
    λ s v a from b id w q h. subst (AtHome IsHome s) (sym (ap (given a) (first_none (v.told id) (own_given s v a id q (sort_of (plain_kind w))) (own_none s v a id q w)))) h in
    record { sound = h.sound; at = put_at_home pt.kernel pt.view pt.addresses pt.view.acting b id m.what m.to h.at; rings = rings_same pt.view w refl refl refl refl h.rings; lists = put_lists }

-- its packet goes out at once, or later
packet_if : (r e : MsgId → ℕ) (pt pt' : Point) (c d : Bool) (a b k : ℕ) (l : Load) → Home r e pt → after pt (if c then [] else if d then Line.Packet a b k l ∷ [] else []) ≡ Some pt' → Kept pt.view.acting pt'
packet_if r e pt pt' true d a b k l h is = let f : pt ≡ pt' = cc in subst (Kept pt.view.acting) f (record { r = r; e = e; home = h; acting = refl })
packet_if r e pt pt' false false a b k l h is = let f : pt ≡ pt' = cc in subst (Kept pt.view.acting) f (record { r = r; e = e; home = h; acting = refl })
packet_if r e pt pt' false true a b k l h is =
    subst (Kept pt.view.acting) (let f : moved pt (Line.Packet a b k l) pt.kernel ≡ pt' = cc in f) (record { r = r; e = e; home = packet_line_home r e pt a b k l h; acting = refl })

pub routes_keep : (r e : MsgId → ℕ) (pt pt' : Point) (id : MsgId) (ls : List Line) → Home r e pt → lines_of pt (Routes id) ≡ Some ls → after pt ls ≡ Some pt' → Kept pt.view.acting pt'
routes_keep r e pt pt' id ls h is next =
    let b = (pt.addresses (Receiver id)).at in
    let (m, there, last) = bind-is (pt.kernel.bag id) (λ (x : PlainMessage). Some (puts pt.view b id (plain_kind x.what) x.to)) ls is in
    let c = pt.view.acting in
    let rest = if (c == b) then [] else if goes_out (pt.view.pair c b) then packet_line pt.view c b (Load.Data (length (pt.view.pair c b).ids)) ∷ [] else [] in
    packet_if r e (moved pt (Line.Put c b id (plain_kind m.what) m.to) pt.kernel) pt' (c == b) (goes_out (pt.view.pair c b)) c b (length (pt.view.pair c b).wire) (Load.Data (length (pt.view.pair c b).ids))
    (routed_home r e pt id m b there (ap (λ (p : Place). p.at) (h.at.messages id m there).receiver) h) (ap (after pt) (let f : puts pt.view b id (plain_kind m.what) m.to ≡ ls = cc in f) ∙ next)

pub label_keeps : NoneReplaced → (r e : MsgId → ℕ) (pt pt' : Point) (l : Label) → SaidAt pt.kernel pt.view.acting l → Home r e pt → after pt (Line.Label l ∷ []) ≡ Some pt' → Kept pt.view.acting pt'
label_keeps none r e pt pt' l at h is =
    let (mid, first, last) = bind-is (after_line pt (Line.Label l)) (λ (x : Point). after x []) pt' is in
    let (t, step, then_) = bind-is (kernel.step pt.kernel l) (λ (s : OneKernel). Some (moved pt (Line.Label l) s)) mid first in
    let f : moved pt (Line.Label l) t ≡ mid = cc in
    subst (Kept pt.view.acting) (f ∙ (let g : mid ≡ pt' = cc in g)) (record { r = λ i. r i + reception i l; e = λ i. e i + entry i pt.kernel t; home = label_line none r e pt l t step at h; acting = acting_label pt.view l })
