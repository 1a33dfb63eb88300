-- Messages that go on: one that is forwarded, and all that stand in the lists of a process that has left.
use Rattle.dm_law_rule.proofs.Names.{◌≡◌, ℕ, ◌+◌, ◌≤◌, ◌==◌, ◌&&◌, Bool, true, false, List, [], ◌∷◌, ◌++◌, refl, ap, ◌∙◌, sym, subst, arith, length, ◌⊎◌, inl, inr, if◌then◌else◌, Option, None, Some, nat_tests, Pid, MsgId, MessageKind, id_eq}
use Rattle.dm_law_rule.proofs.Names.{bind, Line, Load, View, Pair, Told, view_after, handled, handled_first, receiver_of, is_kernels, own_id, forwarded_for, routed_on, after_put, Point, label_of, moved, seen, after, Part, Says, Again, Owns}
use Rattle.dm_law_rule.proofs.Names.{map, pid_of, to_kernel, Spelled, lines_of, puts, behind, spelled, sends_on, Spot, Queue, Held, times, ids_at, standing, id_eq-is, bind-is, at_record}
use Rattle.dm_law_rule.proofs.Lines.{Bag, hidden, Stands, Stands-same, Stands-handled, at_record_off, Stands-stays}
use Rattle.dm_law_rule.proofs.Letters.{letters}
use Rattle.dm_law_rule.proofs.Hushed.{hushed}
use Rattle.dm_law_rule.proofs.Pairs.Stand.{set_is, set_other}
use Rattle.dm_law_rule.proofs.Pairs.Lines.{touches, pair_same}
use Rattle.dm_law_rule.proofs.States.{State, PairsFit, says_next, said, State-at, by_packet, numbered_as, PutNext, puts_next}
use Rattle.dm_law_rule.proofs.Said.{fits_as}
pub use Rattle.dm_law_rule.proofs.Said.{Steady}
use Rattle.dm_law_rule.proofs.Moves.Lists.{without_all, both_lists, both_once, both_times, emptied, under_way, first_off, emptied_kept, without_some}
use Rattle.dm_law_rule.proofs.Moves.States.{hidden_letters, front_way, Between, between_packet, again, by_own_put}
use Rattle.dm_law_rule.proofs.Pairs.Moves.{one_more}

same_two : (a b c : ℕ) → ((a == c) && (b == c)) ≡ true → (a ≡ b) × ((a == b) ≡ true)
same_two a b c e = (grind (arith, nat_tests), grind (arith, nat_tests))

pub fits_put : (v : View) (a b : ℕ) (i : MsgId) (k : MessageKind) (q : Pid) → PairsFit v → PairsFit (after_put v a b i k q)
fits_put v a b i k q h =
    let put_home : (a b : ℕ) (p : Pair) (i : MsgId) → (a == b) ≡ true → p.taken ≡ length p.ids → (routed_on a b p i).taken ≡ length (p.ids ++ i ∷ []) = λ a b p i e is.
    let l = one_more p i in omega (arith, ap (λ (c : Bool). if c then p.taken + 1 else p.taken) e, l, is) in
    let put_within : (a b : ℕ) (p : Pair) (i : MsgId) (c : Bool) → (a == b) ≡ c → p.taken ≤ length p.ids → (routed_on a b p i).taken ≤ length (p.ids ++ i ∷ []) = λ a b p i c h1 h2. search (arith, one_more) in
    search (arith, set_is, put_within, set_other, same_two, put_home)

pub fits_packet : (v : View) (a b k : ℕ) (l : Load) → PairsFit v → PairsFit (view_after v (Line.Packet a b k l))
fits_packet v a b k l h = search (arith, set_is, set_other, same_two)

-- what stands on the way, and pairs that fit
pub record Way (gone : List MsgId) (pt : Point) : Type 0 where
  pub between : Between gone pt
  pub fits : PairsFit pt.view

pub way_packet : (gone : List MsgId) (q : Point) (a b k : ℕ) (l : Load) → Way gone q → Way gone (moved q (Line.Packet a b k l) q.kernel)
way_packet gone q a b k l h = record { between = between_packet gone q a b k l h.between; fits = fits_packet q.view a b k l h.fits }

-- a line that is no step
pub record LineNext (pt : Point) (l : Line) (ps : List Part) (w : Spelled) : Type 0 where
  pub rest : Spelled
  pub more : spelled (moved pt l pt.kernel) ps ≡ Some rest
  pub point : rest.point ≡ w.point

pub line_next : (pt : Point) (l : Line) (ps : List Part) (w : Spelled) → label_of l ≡ None → spelled pt (Says l ∷ ps) ≡ Some w → LineNext pt l ps w
line_next pt l ps w none e = search (arith, says_next)

pub line_ends : (pt : Point) (l : Line) (w : Spelled) → label_of l ≡ None → State None (moved pt l pt.kernel) → spelled pt (Says l ∷ []) ≡ Some w → State None w.point
line_ends pt l w none h e =
    let k = line_next pt l [] w none e in
    State-at None k.rest.point w.point k.point (State-at None (moved pt l pt.kernel) k.rest.point (said (moved pt l pt.kernel) k.rest k.more) h)

-- the next message of the kernel is put
owns_next : (pt : Point) (k : MessageKind) (q : Pid) (b : ℕ) (ps : List Part) (w : Spelled) → Steady pt → spelled pt (Owns k q b ∷ ps) ≡ Some w → PutNext Steady ps w
owns_next pt k q b ps w h e =
    let steady_packet : (q : Point) (a b k : ℕ) (l : Load) → Steady q → Steady (moved q (Line.Packet a b k l) q.kernel) = λ q a b k l h. record { state = by_packet None q a b k l h.state; fits = fits_packet q.view a b k l h.fits } in
    puts_next Steady steady_packet pt (Owns k q b) b (own_id pt.view) k q ps w refl
    (record { state = by_own_put pt b k q h.fits h.state; fits = fits_put pt.view pt.view.acting b (own_id pt.view) k q h.fits }) e

-- the kernels of other machines are told
pub owns_all : (k : MessageKind) (ms : List ℕ) (pt : Point) (w : Spelled) → Steady pt → spelled pt (map (to_kernel k) ms) ≡ Some w → State None w.point
owns_all k [] pt w h e = State-at None pt w.point (said pt w e) h.state
owns_all k (m ∷ ms) pt w h e =
    let n = owns_next pt k (pid_of m 0) m (map (to_kernel k) ms) w h e in
    State-at None n.rest.point w.point n.point (owns_all k ms n.next n.rest n.stands n.more)

pub owns_ends : (pt : Point) (k : MessageKind) (q : Pid) (b : ℕ) (w : Spelled) → Steady pt → spelled pt (Owns k q b ∷ []) ≡ Some w → State None w.point
owns_ends pt k q b w h e =
    let n = owns_next pt k q b [] w h e in
    State-at None n.rest.point w.point n.point (State-at None n.next n.rest.point (said n.next n.rest n.more) n.stands.state)

-- and a line before it
pub line_owns : (pt : Point) (l : Line) (k : MessageKind) (q : Pid) (b : ℕ) (w : Spelled) → label_of l ≡ None → touches l ≡ false → PairsFit pt.view → State None (moved pt l pt.kernel) → spelled pt (Says l ∷ Owns k q b ∷ []) ≡ Some w → State None w.point
line_owns pt l k q b w none quiet fits h e =
    let n = line_next pt l (Owns k q b ∷ []) w none e in
    State-at None n.rest.point w.point n.point
    (owns_ends (moved pt l pt.kernel) k q b n.rest (record { state = h; fits = fits_as pt.view (seen pt.kernel pt.view l) (pair_same pt.view l quiet) fits }) n.more)

-- the messages that were on the way are put again
pub again_next : (pt : Point) (b : ℕ) (i : MsgId) (is : List MsgId) (ps : List Part) (w : Spelled) → Way (i ∷ is) pt → spelled pt (Again i b ∷ ps) ≡ Some w → PutNext (Way is) ps w
again_next pt b i is ps w h e =
    let (ls, lines, rest) = bind-is (lines_of pt (Again i b)) (λ ls. bind (after pt ls) (λ n. bind (spelled n ps) (λ v. Some (behind ls v)))) w e in
    let (t, there, last) = bind-is (pt.view.told i) (λ t. Some (puts pt.view b i t.kind t.receiver)) ls lines in
    puts_next (Way is) (way_packet is) pt (Again i b) b i t.kind t.receiver ps w (lines ∙ sym last)
    (record { between = again pt b i is t h.fits there h.between; fits = fits_put pt.view pt.view.acting b i t.kind t.receiver h.fits }) e

pub all_again : (is : List MsgId) (pt : Point) (b : ℕ) (ps : List Part) (w : Spelled) → Way is pt → spelled pt (sends_on b is ++ ps) ≡ Some w → PutNext (Way []) ps w
all_again [] pt b ps w h e = record { next = pt; stands = h; rest = w; more = e; point = refl }
all_again (i ∷ is) pt b ps w h e =
    let n = again_next pt b i is (sends_on b is ++ ps) w h e in
    let m = all_again is n.next b ps n.rest n.stands n.more in
    record { next = m.next; stands = m.stands; rest = m.rest; more = m.more; point = m.point ∙ n.point }

pub steadied : (pt : Point) → Way [] pt → Steady pt
steadied pt h =
    let arrived : (pt : Point) → Between [] pt → State None pt = λ pt h. record { r = h.r; e = h.e; sound = h.sound; own = h.own; stands = h.stands; untold = h.untold; numbered = h.numbered; pending = λ j k. cc; there = λ j k. cc } in
    record { state = arrived pt h.between; fits = h.fits }

-- a message is forwarded
forwarded_off : (v : View) (i : MsgId) (o : Option Pid) (z : Spot) → ids_at (forwarded_for (handled v i) o) z ≡ ids_at (handled v i) z
forwarded_off v i None z = refl
forwarded_off v i (Some p) (Queue m q) = refl
forwarded_off v i (Some p) _ = refl

pub forwarded_way : (pt : Point) (i : MsgId) (is : List MsgId) (to : ℕ) → State None pt → pt.view.inbox pt.view.acting ≡ i ∷ is → Between (i ∷ []) (moved pt (Line.Forwarded i to) pt.kernel)
forwarded_way pt i is to h front =
    let v = pt.view in
    let l = Line.Forwarded i to in
    let hush = hushed v l refl in
    let bag = letters h.own pt.kernel.bag in
    let told : (j : MsgId) → (view_after v l).told j ≡ v.told j = λ j. ap (λ (f : MsgId → Option Told). f j) hush.told in
    record {
      r = h.r;
      e = h.e;
      sound = h.sound;
      own = h.own;
      stands = Stands-handled bag v (view_after v l) i is front (λ z. forwarded_off v i (receiver_of (v.told i)) z) told h.stands;
      untold = λ j zero_ other. told j ∙ h.untold j zero_ other;
      numbered = numbered_as v (view_after v l) hush.count hush.told h.numbered;
      way = λ j least.
          let ji : i ≡ j = sym ((search (arith, id_eq-is))) in
          let (q, way) = front_way pt i is h front in
          subst (λ (x : MsgId). (q : Pid) × (bag x ≡ Some q) × (receiver_of ((view_after v l).told x) ≡ Some q)) ji (q, way, ap receiver_of (told i) ∙ h.stands.told i q way);
      once = λ j. elim (id_eq j i) as (λ c. (if c then 1 else 0) + 0 ≤ 1) [ true ↦ omega arith | false ↦ omega arith ];
    }

-- a process has left: its lists are emptied
without_same : (js : List MsgId) (bag other : Bag) → ((i : MsgId) → other i ≡ bag i) → (i : MsgId) → without_all js other i ≡ without_all js bag i
without_same [] bag other e i = e i
without_same (j ∷ js) bag other e i = ap (λ (x : Option Pid). if id_eq j i then None else x) (without_same js bag other e i)

pub sent_off : (v : View) (p : Pid) (n : ℕ) (z : Spot) → ids_at (view_after v (Line.SentOn p n)) z ≡ ids_at (emptied (handled_first v) p) z
sent_off v p n z = search arith

pub least_of : (m n : ℕ) → 1 ≤ m + n → (1 ≤ m) ⊎ (1 ≤ n)
least_of m n h1 = search arith

lists_way : (bag : Bag) (v : View) (p : Pid) (j : MsgId) → 1 ≤ times j (both_lists v p) → Stands bag v → (q : Pid) × (bag j ≡ Some q)
lists_way bag v p j least h =
    elim (least_of (standing v j (Queue v.acting p)) (standing v j (Held v.acting p)) (subst (λ n. 1 ≤ n) (both_times v p j) least)) [
      | inl x ↦ under_way (bag j) (standing v j) (Queue v.acting p) x (h.kept j)
      | inr y ↦ under_way (bag j) (standing v j) (Held v.acting p) y (h.kept j)
    ]

pub sent_way : (pt : Point) (p : Pid) (n : ℕ) (i : MsgId) (is : List MsgId) → State None pt → pt.view.inbox pt.view.acting ≡ i ∷ is → is_kernels i ≡ true → Between (both_lists pt.view p) (moved pt (Line.SentOn p n) pt.kernel)
sent_way pt p n i is h front mine =
    let Stands-emptied : (bag : Bag) (v w : View) (p : Pid) → ((z : Spot) → ids_at w z ≡ ids_at (emptied v p) z) → ((i : MsgId) → w.told i ≡ v.told i) → Stands bag v → Stands (without_all (both_lists v p) bag) w = λ bag v w p same told h.
    let emptied_fewer : (v : View) (p : Pid) (m : ℕ) (q : Pid) (j : MsgId) → 1 ≤ times j (at_record v.queue v.acting p [] m q) → 1 ≤ times j (v.queue m q) = λ v p m q j least. grind (arith, nat_tests, at_record_off) in
    Stands-stays (without_all (both_lists v p) bag) (emptied v p) w same told
    ((search (arith, emptied_kept, without_some, emptied_fewer))) in
    let v = pt.view in
    let l = Line.SentOn p n in
    let bag = letters h.own pt.kernel.bag in
    let own = hidden (Some i) h.own in
    let left : Bag = hidden (Some i) bag in
    let same : (j : MsgId) → letters own pt.kernel.bag j ≡ left j = hidden_letters h.own pt.kernel.bag i mine in
    let first : Stands left (handled_first v) = Stands-handled bag v (handled_first v) i is front (first_off v i is front) (λ j. refl) h.stands in
    let ids = both_lists v p in
    record {
      r = h.r;
      e = h.e;
      sound = h.sound;
      own = own;
      stands = Stands-same (without_all ids left) (without_all ids (letters own pt.kernel.bag)) (view_after v l) (without_same ids left (letters own pt.kernel.bag) same)
          (Stands-emptied left (handled_first v) (view_after v l) p (λ z. sent_off v p n z) (λ j. refl) first);
      untold = h.untold;
      numbered = h.numbered;
      way = λ j least. (let (q, way) = lists_way left (handled_first v) p j least first in (q, same j ∙ way, first.told j q way));
      once = λ j. both_once left (handled_first v) p j first.kept;
    }
