-- As long as nothing moves, messages of one sender to one process on one channel are received in the order in which they were sent.
use Rattle.dm_law_always.proofs.Names.{◌≡◌, suc, Bool, true, false, List, [], ◌∷◌, ◌++◌, refl, ap, ◌∙◌, sym, subst, arith, Option, Some, false≢true, Pid, MsgId, id_of, Boot, IsValid, Label, OneKernel, bind, start, replay, Step, Line, Spelled}
use Rattle.dm_law_always.proofs.Names.{Point, first_point, labels, moved, LeadsBy, ReceivesInOrder, AreStill, ℕ, ◌+◌, ◌≤◌, inl, inr, if◌then◌else◌, None, cases_Bool, nat_tests, id_eq, PlainMessage, PlainWhat, on_mask, in_bag, counts}
use Rattle.dm_law_always.proofs.Names.{pid_eq-same, id_eq-is, id_eq-same, after_step, without_id, times, untaken, View, after_label, Each, channel_in, is_for_home, are_for_home, About, NothingElse, begins, marked, homes_of, Sane, AskNone}
use Rattle.dm_law_always.proofs.Names.{first_view, spelled, ordered, first_one, first_not, drop_one, put_not, none_some}
use Rattle.dm_law_always.proofs.RunLabels.{labels-append, replay-append, group_replay}
use Rattle.dm_law_always.proofs.Goes.Parts.{said, Shape, Quiet, Takes, Goes, Reception, not_receive, no_receive, sane_by, AsksNone, unasked}
use Rattle.dm_law_always.proofs.Goes.Always.{CalmFor, group_on}
use Rattle.dm_law_always.proofs.Goes.Runs.{RunStarts, RunGoes, Stays, stays_start, stays_group, calm_for}
use Rattle.dm_law_always.proofs.Order.Lines.{Which, Ord, on_channel, is_one, is_told, ord_view, ord_step, thin_label, thin_same, box_same, was_told, counts_grown, one_is}
use Rattle.dm_law_always.proofs.Fits.Rises.{both, two}
use Rattle.dm_law_always.proofs.Runs.{Run}
use Rattle.dm_law_always.proofs.Goes.Serves.{first_is}
use Rattle.dm_law_always.proofs.Order.Puts.{thin_pair, queue_on}
use Rattle.dm_law_rule.specs.View as view
use Rattle.dm_onekernel.specs.Step as kernel
use Rattle.dm_law_rule.specs.Rule as rule

-- messages of one to another on a channel, from a number on
abbrev pub which : Pid → Pid → ℕ → ℕ → Which
which from to channel floor = record { from = from; to = to; channel = channel; floor = floor }

-- the head of a group
ord_begins : (q : Which) (s : OneKernel) (v : View) (n : ℕ) (a : About) → Ord q s v → Ord q s (begins v n a)
ord_begins q s v n a o = ord_view q s v (begins v n a) (thin_same q v (begins v n a) refl (box_same v q.to.home) (λ x. refl) (λ i. refl)) o

pub ord_head : (q : Which) (s : OneKernel) (v : View) (d : Step) → Ord q s v → Ord q s (view.after_head v d)
ord_head q s v (Step.Turn m) o = ord_begins q s v m NothingElse o
ord_head q s v (Step.Tick m) o = ord_begins q s v m NothingElse o
ord_head q s v (Step.Migrate p m) o = ord_begins q s v (view.actor v (Step.Migrate p m)) (view.Target m) o
ord_head q s v (Step.CallOff p m) o = ord_begins q s v m NothingElse o
ord_head q s v (Step.Deliver a c k) o =
    let w = begins v c NothingElse in
    ord_view q s w (view.with_pair w a c (marked (v.pair a c) k)) (thin_pair q w a c (marked (v.pair a c) k) refl) (ord_begins q s v c NothingElse o)

head_acts : (v : View) (d : Step) → (view.after_head v d).acting ≡ view.actor v d
head_acts v (Step.Turn m) = refl
head_acts v _ = refl

head_queues : (v : View) (d : Step) (n : ℕ) (p : Pid) → (view.after_head v d).queue n p ≡ v.queue n p
head_queues v (Step.Turn m) n p = refl
head_queues v _ n p = refl

-- what is queued is for its process
queued_to : (b : Boot) (at : Point) (d : Step) (n : ℕ) (p : Pid) (i : MsgId) (x : PlainMessage) → Run b at → 1 ≤ times i ((view.after_head at.view d).queue n p) → at.kernel.bag i ≡ Some x → x.to ≡ p
queued_to b at d n p i x run least there = ((run.based.queued n p i (let e : times i ((view.after_head at.view d).queue n p) ≡ times i (at.view.queue n p) = ap (times i) (head_queues at.view d n p) in omega (arith, least, e))).is x there).0

-- a group that receives, from a point to the next
pub record Taking (b : Boot) (at : Point) (p : Pid) (i : MsgId) (next : Point) : Type 0 where
  pub d : Step
  pub run : Run b at
  pub home : p.home ≡ view.actor at.view d
  pub mask : ℕ
  pub first : rule.first_awaited at.kernel mask ((view.after_head at.view d).queue (view.actor at.view d) p) ≡ Some i
  pub t : OneKernel
  pub step : kernel.step at.kernel (Label.Receive p i) ≡ Some t
  pub point : next ≡ moved (moved at (Line.Head d) at.kernel) (Line.Label (Label.Receive p i)) t

-- lists of one kind
mem : (P : MsgId → Type 0) (is : List MsgId) (i : MsgId) → 1 ≤ times i is → Each P is → P i
mem P [] i least h = absurd (omega (arith, least))
mem P (j ∷ js) i least h = elim (cases_Bool (id_eq i j)) [
  | inl same ↦ subst P (sym (id_eq-is i j same)) h.0
  | inr apart ↦
      let e : times i (j ∷ js) ≡ 0 + times i js = ap (λ (c : Bool). (if c then 1 else 0) + times i js) apart in
      mem P js i (omega (arith, least, e)) h.1
]

bound_in : (g : MsgId → Bool) (from : ℕ) (is rest : List MsgId) (j : MsgId) → ordered g from (is ++ rest) ≡ true → 1 ≤ times j is → g j ≡ true → from ≤ j.n
bound_in g from [] rest j h least one = absurd (omega (arith, least))
bound_in g from (i ∷ is) rest j h least one = elim (cases_Bool (id_eq j i)) [
  | inl same ↦
      let e : j ≡ i = id_eq-is j i same in
      let k = (first_one g from i (is ++ rest) (sym (ap g e) ∙ one) h).0 in
      let n : j.n ≡ i.n = ap (λ (v : MsgId). v.n) e in
      omega (arith, k, n)
  | inr apart ↦
      let e : times j (i ∷ is) ≡ 0 + times j is = ap (λ (c : Bool). (if c then 1 else 0) + times j is) apart in
      bound_in g from is rest j (drop_one g from i (is ++ rest) h) (omega (arith, least, e)) one
]

-- behind the first that was awaited
first_by : (s : OneKernel) (g : MsgId → Bool) (mask from : ℕ) (j : MsgId) (js rest : List MsgId) (i : MsgId) (c : Bool) → rule.is_awaited mask (s.bag j) ≡ c → (if c then Some j else rule.first_awaited s mask js) ≡ Some i → ((k : MsgId) → g k ≡ true → rule.is_awaited mask (s.bag k) ≡ true) → g i ≡ true
    → ordered g from (j ∷ (js ++ rest)) ≡ true → (rule.first_awaited s mask js ≡ Some i → ordered g from (js ++ rest) ≡ true → ordered g (i.n + 1) (without_id i js ++ rest) ≡ true)
    → ordered g (i.n + 1) ((if id_eq i j then js else j ∷ without_id i js) ++ rest) ≡ true
first_by s g mask from j js rest i c h1 h2 h3 h4 h5 h6 = search (arith, first_one, id_eq-same, i.n, s.bag, id_eq-is, put_not, first_not)

first_goes : (s : OneKernel) (g : MsgId → Bool) (mask from : ℕ) (is rest : List MsgId) (i : MsgId) → rule.first_awaited s mask is ≡ Some i → ((k : MsgId) → g k ≡ true → rule.is_awaited mask (s.bag k) ≡ true) → g i ≡ true → ordered g from (is ++ rest) ≡ true → ordered g (i.n + 1) (without_id i is ++ rest) ≡ true
first_goes s g mask from [] rest i e awaited one h = none_some i e
first_goes s g mask from (j ∷ js) rest i e awaited one h =
    first_by s g mask from j js rest i (rule.is_awaited mask (s.bag j)) refl e awaited one h (λ f k. first_goes s g mask from js rest i f awaited one k)

-- channels
mask_of : (mask c : ℕ) (w : PlainWhat) → rule.what_is_awaited mask w ≡ true → channel_in w ≡ Some c → on_mask mask c ≡ true
mask_of mask c (PlainWhat.User code channel body links) e f = let k : channel ≡ c = cc in ap (on_mask mask) (sym k) ∙ e
mask_of mask c _ e f = none_some c f

awaited_on : (mask c : ℕ) (w : PlainWhat) → on_channel c w ≡ true → on_mask mask c ≡ true → rule.what_is_awaited mask w ≡ true
awaited_on mask c (PlainWhat.User code channel body links) e f = let k : channel ≡ c = grind (arith, nat_tests) in ap (on_mask mask) k ∙ f
awaited_on mask c _ e f = cc

one_of : (s : OneKernel) (from to : Pid) (channel floor n : ℕ) (x : PlainMessage) → s.bag (id_of from n) ≡ Some x → x.to ≡ to → channel_in x.what ≡ Some channel → is_one s (which from to channel floor) (id_of from n) ≡ true
one_of s from to channel floor n x there receiver on = search (arith, s.bag, pid_eq-same, two, x.to, x.what)

counts_lower : (s : OneKernel) (p : Pid) (n k : ℕ) → k ≤ n → counts s (id_of p n) ≡ true → counts s (id_of p k) ≡ true
counts_lower s p n k le e = search (arith, s.switchboard.sent, s.manager.sent)

-- behind a reception all that is of the kind is later
taken_by : (m : ℕ) (pt : Point) (from to : Pid) (channel n mask : ℕ) (x : PlainMessage) (t : OneKernel) → Sane pt → pt.view.acting ≡ m → to.home ≡ m → rule.first_awaited pt.kernel mask (pt.view.queue m to) ≡ Some (id_of from n) → kernel.step pt.kernel (Label.Receive to (id_of from n)) ≡ Some t
    → pt.kernel.bag (id_of from n) ≡ Some x → (1 ≤ times (id_of from n) (pt.view.queue m to) → x.to ≡ to) → channel_in x.what ≡ Some channel → Ord (which from to channel 0) pt.kernel pt.view → Ord (which from to channel (suc n)) t (after_label pt.view (Label.Receive to (id_of from n)))
taken_by m pt from to channel n mask x t sane acts home first step there queued on o =
    let i = id_of from n in
    let s = pt.kernel in
    let v = pt.view in
    let q = which from to channel 0 in
    let r = which from to channel (suc n) in
    let g = is_one s q in
    let w = after_label v (Label.Receive to i) in
    let h = to.home in
    let acting : v.acting ≡ h = acts ∙ sym home in
    let firsts : rule.first_awaited s mask (v.queue h to) ≡ Some i = ap (λ k. rule.first_awaited s mask (v.queue k to)) home ∙ first in
    let a = first_is s mask (v.queue h to) i firsts in
    let ax : Some a.x ≡ Some x = sym a.there ∙ there in
    let same : a.x ≡ x = cc in
    let masked : on_mask mask channel ≡ true = mask_of mask channel x.what (sym (ap (λ (z : PlainMessage). rule.what_is_awaited mask z.what) same) ∙ a.what) on in
    let receiver : x.to ≡ to = queued (subst (λ k. 1 ≤ times i (v.queue k to)) home a.stands) in
    let one : g i ≡ true = one_of s from to channel 0 n x there receiver on in
    let queue : w.queue h to ≡ without_id i (v.queue h to) = queue_on v.queue v.acting h to to (without_id i (v.queue v.acting to)) acting (pid_eq-same to) ∙ ap (λ k. without_id i (v.queue k to)) acting in
    let rest = v.inbox h ++ untaken (v.pair from.home h) in
    let later = first_goes s g mask 0 (v.queue h to) rest i firsts
    (λ k e. let c = one_is s q k e in ap (rule.is_awaited mask) c.there ∙ awaited_on mask channel c.x.what c.on masked) one o.order in
    let few = sane.sound.entered.fewer i in
    let in_ : in_bag (s.bag i) ≡ 1 = ap in_bag there in
    let counted : counts s i ≡ true = sane.sound.entered.counted i (omega (arith, few, in_)) in
    let told : is_told v i ≡ true = mem (λ (j : MsgId). is_told v j ≡ true) (v.queue h to) i a.stands o.queue_told in
    let next = ord_view q s v w (thin_label q v (Label.Receive to i)) o in
    let af = after_step sane.r sane.e s t (Label.Receive to i) step sane.sound in
    let now : Ord r s w = record {
      order = ap (λ xs. ordered g (suc n) (xs ++ rest)) queue ∙ ap (λ k. ordered g k (without_id i (v.queue h to) ++ rest)) (let e : suc n ≡ n + 1 = omega arith in e) ∙ later;
      floor = λ k less. counts_lower s from n k (omega (arith, less)) counted;
      last_told = λ k e. let z : k ≡ n = omega (arith, e) in ap (λ j. is_told v (id_of from j)) z ∙ told;
      queue_told = next.queue_told;
      inbox_told = next.inbox_told;
      away_told = next.away_told;
      sourced = next.sourced;
      loop = next.loop;
    } in
    ord_step r s t w (was_told pt (Label.Receive to i) t sane step) (counts_grown s t af.grown) now

pub taken_order : (b : Boot) (at next : Point) (from to : Pid) (channel n : ℕ) (x : PlainMessage) → Taking b at to (id_of from n) next → at.kernel.bag (id_of from n) ≡ Some x → channel_in x.what ≡ Some channel → Ord (which from to channel 0) at.kernel at.view → Ord (which from to channel (suc n)) next.kernel next.view
taken_order b at next from to channel n x take there on o =
    let pt = moved at (Line.Head take.d) at.kernel in
    subst (λ (z : Point). Ord (which from to channel (suc n)) z.kernel z.view) (sym take.point)
    (taken_by (view.actor at.view take.d) pt from to channel n take.mask x take.t (sane_by at (Line.Head take.d) at.kernel refl refl take.run.based.phased.sane) (head_acts at.view take.d) take.home take.first take.step there
    (λ least. queued_to b at take.d (view.actor at.view take.d) to (id_of from n) x take.run least there) on (ord_head (which from to channel 0) at.kernel at.view take.d o))

-- what a reception takes is from the floor on
pub taken_bound : (b : Boot) (at next : Point) (from to : Pid) (channel floor k : ℕ) (y : PlainMessage) → Taking b at to (id_of from k) next → at.kernel.bag (id_of from k) ≡ Some y → channel_in y.what ≡ Some channel → Ord (which from to channel floor) at.kernel at.view → floor ≤ k
taken_bound b at next from to channel floor k y take there on o =
    let j = id_of from k in
    let s = at.kernel in
    let q = which from to channel floor in
    let v = view.after_head at.view take.d in
    let p = ord_head q s at.view take.d o in
    let h = to.home in
    let first : rule.first_awaited s take.mask (v.queue h to) ≡ Some j = ap (λ m. rule.first_awaited s take.mask (v.queue m to)) take.home ∙ take.first in
    let a = first_is s take.mask (v.queue h to) j first in
    let receiver : y.to ≡ to = queued_to b at take.d h to j y take.run a.stands there in
    bound_in (is_one s q) floor (v.queue h to) (v.inbox h ++ untaken (v.pair from.home h)) j p.order a.stands (one_of s from to channel floor k y there receiver on)

-- the group of a reception among all
pub record Reaches (b : Boot) (end pt : Point) (before later : List Label) (p : Pid) (i : MsgId) : Type 0 where
  pub at : Point
  pub replays : replay pt.kernel before ≡ Some at.kernel
  pub order : (k : Which) → Ord k pt.kernel pt.view → Ord k at.kernel at.view
  pub next : Point
  pub on : Stays b next
  pub goes : (k : Which) → Ord k at.kernel at.view → Ord k next.kernel next.view
  pub takes : Taking b at p i next
  pub es : List Step
  pub still : AreStill es
  pub ls : List Line
  pub asks : AskNone ls
  pub leads : LeadsBy b next es ls end
  pub rest : labels ls ≡ later

both_if : (c d : Bool) → (if c then d else false) ≡ true → (c ≡ true) × (d ≡ true)
both_if true d e = (refl, e)
both_if false d e = cc

-- labels before the first reception of a rest
pub quiet_split : (xs ys before later : List Label) (p : Pid) (i : MsgId) → no_receive xs ≡ true → xs ++ ys ≡ before ++ Label.Receive p i ∷ later → (more : List Label) × (before ≡ xs ++ more) × (ys ≡ more ++ Label.Receive p i ∷ later)
quiet_split [] ys before later p i h e = (before, refl, e)
quiet_split (x ∷ xs) ys [] later p i h e = search (arith, both_if)
quiet_split (x ∷ xs) ys (z ∷ zs) later p i h e =
    let f : z ≡ x = cc in
    let g : xs ++ ys ≡ zs ++ Label.Receive p i ∷ later = cc in
    let (more, is, rest) = quiet_split xs ys zs later p i (both_if (not_receive x) (no_receive xs) h).1 g in
    (more, ap (λ ws. z ∷ ws) is ∙ ap (λ y. y ∷ (xs ++ more)) f, rest)

-- a group before
pub found_later : (b : Boot) (end pt mid : Point) (ls before more later : List Label) (p : Pid) (i : MsgId) → replay pt.kernel ls ≡ Some mid.kernel → ((k : Which) → Ord k pt.kernel pt.view → Ord k mid.kernel mid.view) → before ≡ ls ++ more → Reaches b end mid more later p i → Reaches b end pt before later p i
found_later b end pt mid ls before more later p i replays order is f = record {
  at = f.at;
  replays = ap (replay pt.kernel) is ∙ replay-append ls more pt.kernel mid.kernel f.at.kernel replays f.replays;
  order = λ k o. f.order k (order k o);
  next = f.next;
  on = f.on;
  goes = f.goes;
  asks = f.asks;
  takes = f.takes;
  es = f.es;
  still = f.still;
  ls = f.ls;
  leads = f.leads;
  rest = f.rest;
}

-- one label alone
alone : (pt : Point) (l : Label) (t : OneKernel) (v : Spelled) → kernel.step pt.kernel l ≡ Some t → spelled pt (rule.says l ∷ []) ≡ Some v → v.point ≡ moved pt (Line.Label l) t
alone pt l t v step e = search arith

-- what a machine has queued is for processes of its home
queued_home : (s : OneKernel) (m : ℕ) (is : List MsgId) (i : MsgId) → are_for_home s m is ≡ true → 1 ≤ times i is → is_for_home m (s.bag i) ≡ true
queued_home s m [] i h least = absurd (omega (arith, least))
queued_home s m (j ∷ js) i h least = elim (cases_Bool (id_eq i j)) [
  | inl same ↦ ap (λ (k : MsgId). is_for_home m (s.bag k)) (id_eq-is i j same) ∙ (both (is_for_home m (s.bag j)) (are_for_home s m js) h).0
  | inr apart ↦
      let e : times i (j ∷ js) ≡ 0 + times i js = ap (λ (c : Bool). (if c then 1 else 0) + times i js) apart in
      queued_home s m js i (both (is_for_home m (s.bag j)) (are_for_home s m js) h).1 (omega (arith, least, e))
]

home_is : (m : ℕ) (o : Option PlainMessage) (x : PlainMessage) → o ≡ Some x → is_for_home m o ≡ true → x.to.home ≡ m
home_is m None x e h = none_some x e
home_is m (Some y) x e h = let f : y ≡ x = cc in let g : y.to.home ≡ m = grind (arith, nat_tests) in ap (λ (v : PlainMessage). v.to.home) (sym f) ∙ g

taking_home : (b : Boot) (pt : Point) (d : Step) (p : Pid) (mask : ℕ) (i : MsgId) → Stays b pt → rule.first_awaited pt.kernel mask ((view.after_head pt.view d).queue (view.actor pt.view d) p) ≡ Some i → p.home ≡ view.actor pt.view d
taking_home b pt d p mask i h first =
    let m = view.actor pt.view d in
    let a = first_is pt.kernel mask ((view.after_head pt.view d).queue m p) i first in
    let stands = a.stands in
    let to = queued_to b pt d m p i a.x h.both.run a.stands a.there in
    let least : 1 ≤ times i (pt.view.queue m p) = (let e : times i ((view.after_head pt.view d).queue m p) ≡ times i (pt.view.queue m p) = ap (times i) (head_queues pt.view d m p) in omega (arith, stands, e)) in
    ap (λ (q : Pid). q.home) (sym to) ∙ home_is m (pt.kernel.bag i) a.x a.there (queued_home pt.kernel m (pt.view.queue m p) i ((homes_of h.r h.e pt h.home).queue m p) least)

-- a point's group, where it receives
pub taking_of : (b : Boot) (pt : Point) (d : Step) (w : Spelled) (g : Goes (CalmFor pt d) b pt d) (h : Stays b pt) (r : Reception (view.actor pt.view d) (moved pt (Line.Head d) pt.kernel) g.parts) → g.w ≡ w → Taking b pt r.p r.i w.point
taking_of b pt d w g h r is = record {
  d = d;
  run = h.both.run;
  home = taking_home b pt d r.p r.mask r.i h r.first;
  mask = r.mask;
  first = r.first;
  t = r.t;
  step = r.step;
  point = sym (ap (λ (y : Spelled). y.point) is) ∙ g.point ∙ alone (moved pt (Line.Head d) pt.kernel) (Label.Receive r.p r.i) r.t g.behind_head r.step (sym (ap (spelled (moved pt (Line.Head d) pt.kernel)) r.is) ∙ g.spells);
}

-- As long as nothing moves, messages of one sender to one process on one channel are received in the order in which they were sent.

never_nothing : (xs ys : List Label) (y : Label) → [] ≡ xs ++ y ∷ ys → ⊥
never_nothing [] ys y e = search arith
never_nothing (x ∷ xs) ys y e = let f : true ≡ false = ap is_nothing e in false≢true (sym f)
  where
    is_nothing : List Label → Bool
    is_nothing [] = true
    is_nothing (z ∷ zs) = false

-- a group that receives, and what is behind it
-- lines by which none is asked to move
asks_split : (xs ys : List Line) → AskNone (xs ++ ys) → AskNone xs × AskNone ys
asks_split [] ys h = (tt, h)
asks_split (x ∷ xs) ys h = let k = asks_split xs ys h.1 in ((h.0, k.0), k.1)

find_taken : (b : Boot) (end pt mid : Point) (es : List Step) (ls : List Line) (before later : List Label) (p r : Pid) (i j : MsgId) → Taking b pt r j mid → Stays b mid → AreStill es → AskNone ls → LeadsBy b mid es ls end → ((k : Which) → Ord k pt.kernel pt.view → Ord k mid.kernel mid.view)
    → replay pt.kernel (Label.Receive r j ∷ []) ≡ Some mid.kernel → Label.Receive r j ∷ labels ls ≡ before ++ Label.Receive p i ∷ later → ((more : List Label) → labels ls ≡ more ++ Label.Receive p i ∷ later → Reaches b end mid more later p i) → Reaches b end pt before later p i
find_taken b end pt mid es ls [] later p r i j t on still asks leads order replays e again = search arith
find_taken b end pt mid es ls (z ∷ zs) later p r i j t on still asks leads order replays e again =
    let f : z ≡ Label.Receive r j = cc in
    let g : labels ls ≡ zs ++ Label.Receive p i ∷ later = cc in
    found_later b end pt mid (Label.Receive r j ∷ []) (z ∷ zs) zs later p i replays order (ap (λ y. y ∷ zs) f) (again zs g)

find_by : (b : Boot) (end pt mid : Point) (d : Step) (w : Spelled) (es : List Step) (ls : List Line) (before later : List Label) (p : Pid) (i : MsgId) (g : Goes (CalmFor pt d) b pt d) → Shape (view.actor pt.view d) (moved pt (Line.Head d) pt.kernel) g.parts → g.w ≡ w → Stays b pt → Stays b w.point → AreStill es → AskNone ls
    → LeadsBy b w.point es ls end → ((k : Which) → Ord k pt.kernel pt.view → Ord k w.point.kernel w.point.view) → replay pt.kernel (said g.parts) ≡ Some w.point.kernel → said g.parts ++ labels ls ≡ before ++ Label.Receive p i ∷ later
    → ((more : List Label) → labels ls ≡ more ++ Label.Receive p i ∷ later → Reaches b end w.point more later p i) → Reaches b end pt before later p i
find_by b end pt mid d w es ls before later p i g (Quiet quiet) same here on still asks leads order replays e again = search (arith, quiet_split, g.parts, found_later, w.point)
find_by b end pt mid d w es ls before later p i g (Takes r) same here on still asks leads order replays e again =
    let says : said g.parts ≡ Label.Receive r.p r.i ∷ [] = ap said r.is in
    find_taken b end pt w.point es ls before later p r.p i r.i (taking_of b pt d w g here r same) on still asks leads order (ap (replay pt.kernel) (sym says) ∙ replays) (ap (λ xs. xs ++ labels ls) (sym says) ∙ e) again

find : RunGoes → (b : Boot) (es : List Step) (pt end : Point) (ls : List Line) (before later : List Label) (p : Pid) (i : MsgId) → IsValid b → AreStill es → AskNone ls → Stays b pt → LeadsBy b pt es ls end → labels ls ≡ before ++ Label.Receive p i ∷ later → Reaches b end pt before later p i
find goes b [] pt end ls before later p i valid still asks h (none, at) e = absurd (never_nothing before later (Label.Receive p i) (sym (ap labels none) ∙ e))
find goes b (d ∷ ds) pt end ls before later p i valid still asks h (w, rest, fit, is, split, more) e =
    let unasked_ = asks_split w.lines rest (subst AskNone split asks) in
    let g = group_on b pt d h.both.run h.both.own in
    let some : Some g.goes.w ≡ Some w = sym g.goes.is ∙ is in
    let same : g.goes.w ≡ w = cc in
    let on = stays_group goes b pt d w valid still.0 unasked_.0 fit is h in
    let says : labels w.lines ≡ said g.goes.parts = sym (ap (λ (v : Spelled). labels v.lines) same) ∙ g.goes.says in
    find_by b end pt w.point d w ds rest before later p i g.goes g.shape same h on still.1 unasked_.1 more
    (λ k o. subst (λ (v : Spelled). Ord k v.point.kernel v.point.view) same (g.goes.order (calm_for b pt d still.0 h) (subst (λ (v : Spelled). AsksNone (labels v.lines)) (sym same) (unasked w.lines unasked_.0)) h.both.run.based.phased.sane k (ord_head k pt.kernel pt.view d o)))
    (ap (replay pt.kernel) (sym says) ∙ group_replay b pt d w is)
    (ap (λ xs. xs ++ labels rest) (sym says) ∙ sym (labels-append w.lines rest) ∙ sym (ap labels split) ∙ e)
    (λ tail f. find goes b ds w.point end rest tail later p i valid still.1 unasked_.1 on more f)

same_kernel : (o : Option OneKernel) (s t : OneKernel) → o ≡ Some s → o ≡ Some t → s ≡ t
same_kernel o s t e f = let g : Some s ≡ Some t = sym e ∙ f in cc

ord_start : (b : Boot) (q : Which) → q.floor ≡ 0 → Ord q (start b) (first_view b)
ord_start b q none = search arith

-- received in order, where all of it holds at the start and is kept by each group
pub receives_in_order_by : RunStarts → RunGoes → ReceivesInOrder
receives_in_order_by starts goes b es ls pt before between after_ from to n k channel valid still asks leads e s1 s2 =
    let i = id_of from n in
    let j = id_of from k in
    let later = between ++ Label.Receive to j ∷ after_ in
    let f1 = find goes b es (first_point b) pt ls before later to i valid still asks (stays_start starts b valid) leads e in
    let eq1 = same_kernel (replay (start b) before) s1.kernel f1.at.kernel s1.run f1.replays in
    let there1 : f1.at.kernel.bag i ≡ Some s1.message = sym (ap (λ (s : OneKernel). s.bag i) eq1) ∙ s1.there in
    let o0 = f1.order (which from to channel 0) (ord_start b (which from to channel 0) refl) in
    let o1 = taken_order b f1.at f1.next from to channel n s1.message f1.takes there1 s1.on o0 in
    let f2 = find goes b f1.es f1.next pt f1.ls between after_ to j valid f1.still f1.asks f1.on f1.leads f1.rest in
    let o2 = f2.order (which from to channel (suc n)) o1 in
    let kernel_is : f1.takes.t ≡ f1.next.kernel = sym (ap (λ (z : Point). z.kernel) f1.takes.point) in
    let on : replay f1.at.kernel (Label.Receive to i ∷ between) ≡ Some f2.at.kernel =
    ap (λ (o : Option OneKernel). bind o (λ (t : OneKernel). replay t between)) f1.takes.step ∙ ap (λ (t : OneKernel). replay t between) kernel_is ∙ f2.replays in
    let all = replay-append before (Label.Receive to i ∷ between) (start b) f1.at.kernel f2.at.kernel f1.replays on in
    let eq2 = same_kernel (replay (start b) (before ++ Label.Receive to i ∷ between)) s2.kernel f2.at.kernel s2.run all in
    let there2 : f2.at.kernel.bag j ≡ Some s2.message = sym (ap (λ (s : OneKernel). s.bag j) eq2) ∙ s2.there in
    let bound = taken_bound b f2.at f2.next from to channel (suc n) k s2.message f2.takes there2 s2.on o2 in
    omega (arith, bound)
