-- Each turn, delivery and tick keeps that each message stands once.
use Rattle.dm_law_rule.proofs.Names.{◌≡◌, ◌≢◌, ℕ, ◌≤◌, ◌==◌, ◌&&◌, Bool, true, false, List, [], ◌∷◌, refl, ap, ◌∙◌, subst, arith, inl, inr, if◌then◌else◌, Option, None, Some, cases_Bool, false≢true, Pid, pid_eq, MsgId, MessageKind, Line, Label}
use Rattle.dm_law_rule.proofs.Names.{bind, OneKernel, at_machine, at_record, without_front, View, Told, view_after, handled, receiver_of, Point, moved, Spelled, spelled, Spot, Queue, Inbox, times, ids_at, standing, pid_eq-is, pid_eq-same, ◌+◌}
use Rattle.dm_law_rule.proofs.Names.{id_eq-same, bind-is, is_kernels, drop_parts, sort_of, and_parts, eqb-true, Part, ◌++◌}
use Rattle.dm_law_rule.proofs.Standing.{StandsAsBag-elsewhere}
use Rattle.dm_law_rule.proofs.Lines.{Stands-stays, Stands-handled, Stands-dequeued, eq_self, spots_differ}
use Rattle.dm_law_rule.proofs.Bags.{BagStep, out_of, bag_dropped}
use Rattle.dm_law_rule.proofs.Letters.{letters, letter_of, not_kernels, gone_in}
use Rattle.dm_law_rule.proofs.Once.{one_of}
use Rattle.dm_law_rule.proofs.States.{State, says_next, by_label, PutNext}
use Rattle.dm_law_rule.proofs.Said.{Steady, fits_as}
use Rattle.dm_onekernel.specs.Step as kernel
use Rattle.dm_law_rule.specs.View as view

pub ended_off : (v : View) (p : Pid) (z : Spot) → ids_at (view.ended v p) z ≡ ids_at v z
ended_off v p (Queue m q) = refl
ended_off v p _ = refl

-- what a label line leaves as it is
kills_keeps : (k : MessageKind) (v : View) (p : Pid) → ((z : Spot) → ids_at (view.ends_by (sort_of k) v (Some p)) z ≡ ids_at v z) × ((i : MsgId) → (view.ends_by (sort_of k) v (Some p)).told i ≡ v.told i) × ((view.ends_by (sort_of k) v (Some p)).pair ≡ v.pair) × ((view.ends_by (sort_of k) v (Some p)).acting ≡ v.acting) × ((view.ends_by (sort_of k) v (Some p)).queue ≡ v.queue)
kills_keeps MessageKind.Kill v p = (λ z. ended_off v p z, λ i. refl, refl, refl, refl)
kills_keeps _ v p = (λ z. refl, λ i. refl, refl, refl, refl)

-- what a line changes, but for where messages stand
pub record Leaves (v w : View) : Type 0 where
  pub told : (i : MsgId) → w.told i ≡ v.told i
  pub pair : w.pair ≡ v.pair
  pub acting : w.acting ≡ v.acting

pub served_keeps : (v : View) (o : Option Told) → ((z : Spot) → ids_at (view.served_told v o) z ≡ ids_at v z) × ((i : MsgId) → (view.served_told v o).told i ≡ v.told i) × ((view.served_told v o).pair ≡ v.pair) × ((view.served_told v o).acting ≡ v.acting) × ((view.served_told v o).queue ≡ v.queue)
served_keeps v None = (λ z. refl, λ i. refl, refl, refl, refl)
served_keeps v (Some t) = kills_keeps t.kind v t.receiver

pub serving_off : (v : View) (p : Pid) (z : Spot) → ids_at (view.serving v p) z ≡ ids_at v z
serving_off v p (Queue m q) = refl
serving_off v p _ = refl

pub created_off : (v : View) (i : MsgId) (p : Pid) (z : Spot) → ids_at (view_after v (Line.Label (Label.Created i p))) z ≡ ids_at (handled v i) z
created_off v i p (Queue m q) = refl
created_off v i p _ = refl

-- labels of processes that move no message
pub quiet_label : (pt : Point) (l : Label) (s : OneKernel) (put : Option MsgId) (h : State None pt) → kernel.step pt.kernel l ≡ Some s → BagStep h.e pt.kernel s None put
    → ((z : Spot) → ids_at (view_after pt.view (Line.Label l)) z ≡ ids_at pt.view z) → ((i : MsgId) → (view_after pt.view (Line.Label l)).told i ≡ pt.view.told i) → State put (moved pt (Line.Label l) s)
quiet_label pt l s put h is bag off told = by_label pt l s None put h is (λ j k. cc) bag (Stands-stays (letters h.own pt.kernel.bag) pt.view (view_after pt.view (Line.Label l)) off told h.stands) told

-- what goes by a label is no kernel's own message
pub gone_out : (pt : Point) (l : Label) (s : OneKernel) (i : MsgId) (h : State None pt) → kernel.step pt.kernel l ≡ Some s → out_of l ≡ Some i → (j : MsgId) → Some i ≡ Some j → is_kernels j ≡ false
gone_out pt l s i h is goes j e =
    let g = gone_in pt.kernel s l i is goes in
    let f : i ≡ j = cc in subst (λ (k : MsgId). is_kernels k ≡ false) f (not_kernels h.r h.e pt.kernel i g.message g.there h.sound)

-- labels that handle the message at the front of the inbox
pub front_label : (pt : Point) (l : Label) (s : OneKernel) (i : MsgId) (is : List MsgId) (put : Option MsgId) (h : State None pt) → pt.view.inbox pt.view.acting ≡ i ∷ is → kernel.step pt.kernel l ≡ Some s → out_of l ≡ Some i → BagStep h.e pt.kernel s (Some i) put
    → ((z : Spot) → ids_at (view_after pt.view (Line.Label l)) z ≡ ids_at (handled pt.view i) z) → ((j : MsgId) → (view_after pt.view (Line.Label l)).told j ≡ pt.view.told j) → State put (moved pt (Line.Label l) s)
front_label pt l s i is put h front step_ goes bag off told = search (arith, by_label, gone_out, Stands-handled)

pub without_front_none : (i : MsgId) (xs : List MsgId) → times i xs ≡ 0 → without_front i xs ≡ xs
without_front_none i xs h1 = search arith

pub at_record_same : (f : ℕ → Pid → List MsgId) (m : ℕ) (p : Pid) (x : List MsgId) → x ≡ f m p → (n : ℕ) (q : Pid) → at_record f m p x n q ≡ f n q
at_record_same f m p x e n q = elim (cases_Bool ((m == n) && pid_eq p q)) [
  | inl same ↦
      let k = and_parts (m == n) (pid_eq p q) same in
      ap (λ (c : Bool). if c then x else f n q) same ∙ e ∙ ap (λ t. f t p) (eqb-true m n k.0) ∙ ap (f n) (pid_eq-is p q k.1)
  | inr apart ↦ ap (λ (c : Bool). if c then x else f n q) apart
]

abbrev is_box : Spot → Bool
is_box (Inbox m) = true
is_box _ = false

pub dropped_told : (v : View) (i : MsgId) (o : Option Pid) (j : MsgId) → (view.dropped_for (handled v i) i o).told j ≡ v.told j
dropped_told v i None j = refl
dropped_told v i (Some p) j = refl

-- the message at the front of the inbox stands in no queue
pub front_unqueued : (pt : Point) (i : MsgId) (is : List MsgId) (h : State None pt) → pt.view.inbox pt.view.acting ≡ i ∷ is → (m : ℕ) (p : Pid) → times i (pt.view.queue m p) ≡ 0
front_unqueued pt i is h front m p =
    let queue_spot : (m n : ℕ) (p : Pid) → Queue m p ≢ Inbox n = λ m n p e. false≢true (ap is_box e) in
    let one : 1 ≤ standing pt.view i (Inbox pt.view.acting) = (let a : times i (pt.view.inbox pt.view.acting) ≡ times i (i ∷ is) = ap (times i) front in let b : one_of i i ≡ 1 = ap (λ (c : Bool). if c then 1 else 0) (id_eq-same i) in omega (arith, a, b)) in
    StandsAsBag-elsewhere (letters h.own pt.kernel.bag i) (standing pt.view i) (Inbox pt.view.acting) (Queue m p) one (queue_spot m pt.view.acting p) (h.stands.kept i)

pub machine_same : (f : ℕ → List MsgId) (m : ℕ) (x : List MsgId) → x ≡ f m → (n : ℕ) → at_machine f m x n ≡ f n
machine_same f m x e n = elim (cases_Bool (m == n)) [
  | inl same ↦ ap (λ (c : Bool). if c then x else f n) same ∙ e ∙ ap f (eqb-true m n same)
  | inr apart ↦ ap (λ (c : Bool). if c then x else f n) apart
]

-- one message of the queue of a process that has ended is dropped
queue_front : (pt : Point) (s : OneKernel) (j : MsgId) (js : List MsgId) (p : Pid) (h : State None pt) → pt.view.queue pt.view.acting p ≡ j ∷ js → kernel.step pt.kernel (Label.Dropped j) ≡ Some s → State None (moved pt (Line.Label (Label.Dropped j)) s)
queue_front pt s j js p h front is =
    -- the queue's front goes, and the inbox keeps what it has
    let dequeued_off : (v : View) (j : MsgId) (p : Pid) (o : Option Pid) → o ≡ Some p → times j (v.inbox v.acting) ≡ 0 → (z : Spot)
    → ids_at (view.dropped_for (handled v j) j o) z ≡ ids_at (record v { queue = at_record v.queue v.acting p (without_front j (v.queue v.acting p)) }) z =
    λ v j p o h1 h2 z. search (arith, machine_same, without_front_none) in
    let front_counts : (j i : MsgId) (xs ys : List MsgId) → xs ≡ i ∷ ys → times j xs ≡ times j (without_front i xs) + one_of j i = λ j i xs ys e. search (arith, id_eq-same) in
    let v = pt.view in
    let one : 1 ≤ times j (v.queue v.acting p) = (let a : times j (v.queue v.acting p) ≡ times j (j ∷ js) = ap (times j) front in let b : one_of j j ≡ 1 = ap (λ (c : Bool). if c then 1 else 0) (id_eq-same j) in omega (arith, a, b)) in
    let (x, there, rest) = bind-is (pt.kernel.bag j) (λ m. bind (kernel.why_ended (pt.kernel.processes m.to)) (kernel.drops pt.kernel j m)) s is in
    let letter : letters h.own pt.kernel.bag j ≡ Some x.to = letter_of h.r h.e h.own pt.kernel j x there h.sound in
    let no_inbox : times j (v.inbox v.acting) ≡ 0 = StandsAsBag-elsewhere (letters h.own pt.kernel.bag j) (standing v j) (Queue v.acting p) (Inbox v.acting) one (spots_differ v.acting v.acting p) (h.stands.kept j) in
    by_label pt (Label.Dropped j) s (Some j) None h is (gone_out pt (Label.Dropped j) s j h is refl) (bag_dropped h.e pt.kernel s j is)
    (Stands-dequeued (letters h.own pt.kernel.bag) v (view_after v (Line.Label (Label.Dropped j))) j p (without_front j (v.queue v.acting p)) (λ i. front_counts i j (v.queue v.acting p) js front)
    (λ z. dequeued_off v j p (receiver_of (v.told j)) (h.stands.told j x.to letter ∙ ap Some (h.stands.mine v.acting p j x.to one letter)) no_inbox z) (λ i. dropped_told v j (receiver_of (v.told j)) i) h.stands)
    (λ i. dropped_told v j (receiver_of (v.told j)) i)

queue_told : (pt : Point) (j : MsgId) (js : List MsgId) (p : Pid) (s : OneKernel) → State None pt → pt.view.queue pt.view.acting p ≡ j ∷ js → kernel.step pt.kernel (Label.Dropped j) ≡ Some s → receiver_of (pt.view.told j) ≡ Some p
queue_told pt j js p s h front is =
    let v = pt.view in
    let one : 1 ≤ times j (v.queue v.acting p) = (let a : times j (v.queue v.acting p) ≡ times j (j ∷ js) = ap (times j) front in let b : one_of j j ≡ 1 = ap (λ (c : Bool). if c then 1 else 0) (id_eq-same j) in omega (arith, a, b)) in
    let (x, there, rest) = bind-is (pt.kernel.bag j) (λ m. bind (kernel.why_ended (pt.kernel.processes m.to)) (kernel.drops pt.kernel j m)) s is in
    let letter : letters h.own pt.kernel.bag j ≡ Some x.to = letter_of h.r h.e h.own pt.kernel j x there h.sound in
    h.stands.told j x.to letter ∙ ap Some (h.stands.mine v.acting p j x.to one letter)

-- the whole queue is dropped, and other parts follow
pub all_dropped : (js : List MsgId) (ps : List Part) (pt : Point) (p : Pid) (w : Spelled) → Steady pt → pt.view.queue pt.view.acting p ≡ js → spelled pt (drop_parts js ++ ps) ≡ Some w → PutNext Steady ps w
all_dropped [] ps pt p w h front e = record { next = pt; stands = h; rest = w; more = e; point = refl }
all_dropped (j ∷ js) ps pt p w h front e =
    let k = says_next pt (Line.Label (Label.Dropped j)) (drop_parts js ++ ps) w e in
    let is : kernel.step pt.kernel (Label.Dropped j) ≡ Some k.s = k.is in
    let next = moved pt (Line.Label (Label.Dropped j)) k.s in
    let told = queue_told pt j js p k.s h.state front is in
    let pair : next.view.pair ≡ pt.view.pair = elim (receiver_of (pt.view.told j)) as (λ o. (view.dropped_for (handled pt.view j) j o).pair ≡ pt.view.pair) [ None ↦ refl | Some p ↦ refl ] in
    let acting : next.view.acting ≡ pt.view.acting = elim (receiver_of (pt.view.told j)) as (λ o. (view.dropped_for (handled pt.view j) j o).acting ≡ pt.view.acting)
    [ None ↦ refl | Some p ↦ refl ] in
    -- its queue after one was dropped
    let dropped_queue : (view.dropped_for (handled pt.view j) j (receiver_of (pt.view.told j))).queue pt.view.acting p ≡ js = search (arith, eq_self, pid_eq-same, id_eq-same) in
    let n = all_dropped js ps next p k.rest (record { state = queue_front pt k.s j js p h.state front is; fits = fits_as pt.view next.view pair h.fits }) (ap (λ m. next.view.queue m p) acting ∙ dropped_queue) k.more in
    record { next = n.next; stands = n.stands; rest = n.rest; more = n.more; point = n.point ∙ k.point }
