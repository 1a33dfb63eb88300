-- What is queued for a process is a user message for it, and what is held for it is for it: each group keeps it.
use Rattle.dm_law_always.proofs.Names.{◌≡◌, ℕ, ◌≤◌, Bool, true, false, List, [], ◌∷◌, ◌++◌, refl, ◌∙◌, sym, subst, arith, false≢true, Option, None, Some, Pid, MsgId, MessageKind, plain_kind, PlainMessage, PlainWhat, Boot, Step, id_eq-is}
use Rattle.dm_law_always.proofs.Names.{Spelled, Point, first_point, group_of, at_record, without_id, to_of, Spot, Queue, times, standing, StandsAsBag, View, Told, handled, receiver_of, served_told, is_kernels, letters, letters_bag}
use Rattle.dm_law_always.proofs.Names.{kernels_fresh, Phased, told_some, KnownStands, zero_cases, ◌+◌, ap, if◌then◌else◌, Label, Line, Stage, Known, Here, Frozen, Incoming, front_of, gone_to, is_away, has_no_queue, has_nothing_held, is_kill}
use Rattle.dm_law_always.proofs.Names.{aim, sets, after_step, kernel_after, label_of, without_front, OneKernel, Sane, Unknown}
use Rattle.dm_law_always.proofs.Queued.{IsQueued, is_user}
use Rattle.dm_law_always.proofs.Based.Groups.{group_keeps}
use Rattle.dm_law_always.proofs.Based.Loud.{Loud, keeps_by, life_sort, ended_stays, step_ends, step_serves}
use Rattle.dm_law_always.proofs.Based.Sets.{set_all, killed_or, without_fewer, front_fewer, last_of}
use Rattle.dm_law_always.proofs.Based.Needs.{Buries, Serves}
use Rattle.dm_onekernel.specs.Step as kernel
use Rattle.dm_law_rule.specs.View as view

-- a user message for this process, and no kernel's own
pub record IsUsers (told : MsgId → Option Told) (p : Pid) (i : MsgId) : Type 0 where
  pub what : Told
  pub is : told i ≡ Some what
  pub kind : what.kind ≡ MessageKind.User
  pub receiver : what.receiver ≡ p
  pub other : is_kernels i ≡ false

-- a message for this process
pub record IsFor (told : MsgId → Option Told) (p : Pid) (i : MsgId) : Type 0 where
  pub what : Told
  pub is : told i ≡ Some what
  pub receiver : what.receiver ≡ p

abbrev AreUsers : (MsgId → Option Told) → ℕ → Pid → List MsgId → Type 0
AreUsers told n p xs = (i : MsgId) → 1 ≤ times i xs → IsUsers told p i

abbrev AreFor : (MsgId → Option Told) → ℕ → Pid → List MsgId → Type 0
AreFor told n p xs = (i : MsgId) → 1 ≤ times i xs → IsFor told p i

pub record Waits (v : View) : Type 0 where
  pub queue : (n : ℕ) (p : Pid) (i : MsgId) → 1 ≤ times i (v.queue n p) → IsUsers v.told p i
  pub held : (n : ℕ) (p : Pid) (i : MsgId) → 1 ≤ times i (v.held n p) → IsFor v.told p i

none_there : (T : Type 0) (i : MsgId) → 1 ≤ times i [] → T
none_there T i least = absurd (let k : 1 ≤ 0 = least in omega (arith, k))

-- what was told stays
pub told_kept : (v : View) (a b : ℕ) (i : MsgId) (k : MessageKind) (q : Pid) (j : MsgId) (t : Told) → v.told j ≡ Some t → (view.after_put v a b i k q).told j ≡ Some t
told_kept v a b i k q j t e = search (arith, v.topic, v.told, id_eq-is)

users_on : (f g : MsgId → Option Told) (p : Pid) (i : MsgId) → ((t : Told) → f i ≡ Some t → g i ≡ Some t) → IsUsers f p i → IsUsers g p i
users_on f g p i kept h = record { what = h.what; is = kept h.what h.is; kind = h.kind; receiver = h.receiver; other = h.other }

for_on : (f g : MsgId → Option Told) (p : Pid) (i : MsgId) → ((t : Told) → f i ≡ Some t → g i ≡ Some t) → IsFor f p i → IsFor g p i
for_on f g p i kept h = record { what = h.what; is = kept h.what h.is; receiver = h.receiver }

waits_as : (v w : View) → w.queue ≡ v.queue → w.held ≡ v.held → w.told ≡ v.told → Waits v → Waits w
waits_as v w queue held told h = search (arith, users_on, v.told, w.told, h.queue, for_on, h.held)

-- lists that change
waits_queue : (v : View) (p : Pid) (xs : List MsgId) → AreUsers v.told v.acting p xs → Waits v → Waits (record v { queue = at_record v.queue v.acting p xs })
waits_queue v p xs mine h = record { queue = set_all (AreUsers v.told) v.queue v.acting p xs mine (λ n q off. h.queue n q); held = h.held }

waits_held : (v : View) (p : Pid) (xs : List MsgId) → AreFor v.told v.acting p xs → Waits v → Waits (record v { held = at_record v.held v.acting p xs })
waits_held v p xs mine h = record { queue = h.queue; held = set_all (AreFor v.told) v.held v.acting p xs mine (λ n q off. h.held n q) }

waits_dropped : (v : View) (id : MsgId) (o : Option Pid) → Waits v → Waits (view.dropped_for v id o)
waits_dropped v id o h1 = search (arith, waits_queue, v.queue, v.acting, front_fewer)

waits_served : (v : View) (o : Option Told) → Waits v → Waits (served_told v o)
waits_served v o h1 = search (arith, killed_or)

waits_buried : (v : View) (o : Option Told) → Waits v → Waits (view.buried_for v o)
waits_buried v None h = h
waits_buried v (Some t) h = by t.about
  where
    by : (a : view.About) → Waits (view.forgotten v a)
    by (view.Of p) = record { queue = h.queue; held = h.held }
    by _ = h

waits_queued : (v : View) (id : MsgId) (o : Option Told) → v.told id ≡ o → ((t : Told) → o ≡ Some t → (t.kind ≡ MessageKind.User) × (is_kernels id ≡ false)) → Waits v → Waits (view.queued_for v id (receiver_of o))
waits_queued v id None told need h = h
waits_queued v id (Some t) told need h =
    let k = need t refl in
    let new : IsUsers v.told t.receiver id = record { what = t; is = told; kind = k.0; receiver = refl; other = k.1 } in
    waits_queue v t.receiver (v.queue v.acting t.receiver ++ id ∷ [])
    (λ i least. last_of (IsUsers v.told t.receiver i) i id (v.queue v.acting t.receiver) least (h.queue v.acting t.receiver i) (λ same. subst (λ (j : MsgId). IsUsers v.told t.receiver j) (sym same) new)) h

waits_held_for : (v : View) (id : MsgId) (o : Option Told) → v.told id ≡ o → Waits v → Waits (view.held_for v id (receiver_of o))
waits_held_for v id None told h = h
waits_held_for v id (Some t) told h =
    let new : IsFor v.told t.receiver id = record { what = t; is = told; receiver = refl } in
    waits_held v t.receiver (v.held v.acting t.receiver ++ id ∷ [])
    (λ i least. last_of (IsFor v.told t.receiver i) i id (v.held v.acting t.receiver) least (h.held v.acting t.receiver i) (λ same. subst (λ (j : MsgId). IsFor v.told t.receiver j) (sym same) new)) h

-- held messages go
emptied : (v : View) (p : Pid) (n : ℕ) (q : Pid) (i : MsgId) → Waits v → 1 ≤ times i (at_record v.held v.acting p [] n q) → IsFor v.told q i
emptied v p n q i h = set_all (λ m r xs. (j : MsgId) → 1 ≤ times j xs → IsFor v.told r j) v.held v.acting p [] (λ j least. none_there (IsFor v.told p j) j least) (λ m r off. h.held m r) n q i

waits_loud : Loud (λ pt. Waits pt.view)
waits_loud = record {
  rides = record {
    put = λ pt a b i k q h. record {
      queue = λ n p j least. users_on pt.view.told (view.after_put pt.view a b i k q).told p j (λ t e. told_kept pt.view a b i k q j t e) (h.queue n p j least);
      held = λ n p j least. for_on pt.view.told (view.after_put pt.view a b i k q).told p j (λ t e. told_kept pt.view a b i k q j t e) (h.held n p j least);
    };
    packet = λ pt a b k l h. record { queue = h.queue; held = h.held };
  };
  quiet = λ pt w t l e s told alike sane is h. subst Waits (sym e) (waits_as pt.view w s.queue s.held told h);
  ran = λ pt t p k here alike sane is h. record { queue = h.queue; held = h.held };
  receive = λ pt t p id here alike sane is h.
      let v = pt.view in
      let k = waits_queue v p (without_id id (v.queue v.acting p)) (λ i least. h.queue v.acting p i (without_fewer i id (v.queue v.acting p) least)) h in
      record { queue = k.queue; held = k.held };
  refuse = λ pt t p id c here alike sane is h. record { queue = h.queue; held = h.held };
  end = λ pt t p y rests sane is h. record { queue = h.queue; held = h.held };
  dropped = λ pt t id alike sane is h. waits_dropped (handled pt.view id) id (receiver_of (pt.view.told id)) (record { queue = h.queue; held = h.held });
  served = λ pt t id serves sane is h. waits_served (handled pt.view id) (pt.view.told id) (record { queue = h.queue; held = h.held });
  created = λ pt t id p unborn sane is h. record { queue = h.queue; held = h.held };
  queued = λ pt id need sane h. waits_queued (handled pt.view id) id (pt.view.told id) refl (λ t e. let n = need t e in (n.kind, n.other)) (record { queue = h.queue; held = h.held });
  held = λ pt id need sane h. waits_held_for (handled pt.view id) id (pt.view.told id) refl (record { queue = h.queue; held = h.held });
  frozen = λ pt p lives here h. let set = sets pt.view p pt.view.topic in waits_as pt.view (view.after_stage pt.view p Stage.Frozen) set.queue set.held set.told h;
  accepted = λ pt p lives away h. record { queue = h.queue; held = h.held };
  left = λ pt p leaves h. record { queue = h.queue; held = h.held };
  restarted = λ pt p lives off h. record { queue = h.queue; held = λ n q i least. emptied pt.view p n q i h least };
  stays_ = λ pt p lives off h. record { queue = h.queue; held = λ n q i least. emptied pt.view p n q i h least };
  sent_on = λ pt p n h. (search (arith, set_all, pt.view.told, pt.view.queue, pt.view.acting, none_there, h.queue, emptied, pt.view));
  called = λ pt p n calls h. record { queue = h.queue; held = λ m q i least. emptied pt.view p m q i h least };
  buried = λ pt id n tells sane h. waits_buried (handled pt.view id) (pt.view.told id) (record { queue = h.queue; held = h.held });
}

pub waits_start : (b : Boot) → Waits (first_point b).view
waits_start b = record { queue = λ n p i least. none_there (IsUsers (first_point b).view.told p i) i least; held = λ n p i least. none_there (IsFor (first_point b).view.told p i) i least }

pub waits_group : (b : Boot) (pt : Point) (d : Step) (w : Spelled) → group_of b pt d ≡ Some w → Phased pt → KnownStands pt.kernel pt.view → Waits pt.view → Waits w.point.view
waits_group b pt d w is phased known h = group_keeps (λ q. Waits q.view) (keeps_by (λ q. Waits q.view) waits_loud) b pt d w is phased known h

users_are : (w : PlainWhat) → plain_kind w ≡ MessageKind.User → is_user w ≡ true
users_are w h1 = search arith

pub queued_of : (pt : Point) (h : Phased pt) → Waits pt.view → (n : ℕ) (p : Pid) (i : MsgId) → 1 ≤ times i (pt.view.queue n p) → IsQueued (h.state.e i) p (pt.kernel.bag i)
queued_of pt h waits n p i least =
    let u = waits.queue n p i least in
    record {
      entered = search (arith, zero_cases, h.state.e, h.state.untold, u.is, u.other);
      is = λ x there. (sym (h.sane.tells.receiver i x u.what there u.is) ∙ u.receiver, users_are x.what (sym (h.sane.tells.kind i x u.what there u.is) ∙ u.kind));
    }

pub held_of : (pt : Point) → Waits pt.view → (n : ℕ) (p : Pid) (i : MsgId) → 1 ≤ times i (pt.view.held n p) → (t : Told) × (pt.view.told i ≡ Some t) × (t.receiver ≡ p)
held_of pt waits n p i least = let u = waits.held n p i least in (u.what, u.is, u.receiver)

-- and the other way round
stands_some : (f : Spot → ℕ) (z : Spot) (o : Option Pid) → StandsAsBag o f → 1 ≤ f z → (x : Pid) × (o ≡ Some x)
stands_some f z o h1 h2 = search arith

bag_some : (o : Option PlainMessage) (x : Pid) → to_of o ≡ Some x → (m : PlainMessage) × (o ≡ Some m)
bag_some o x h1 = search arith

entered_other : (pt : Point) (h : Phased pt) (i : MsgId) (c : Bool) → is_kernels i ≡ c → 1 ≤ h.state.e i → c ≡ false
entered_other pt h i c h1 h2 = search (arith, kernels_fresh, h.state.r, h.state.e, pt.kernel, h.state.sound)

pub user_kind : (w : PlainWhat) → is_user w ≡ true → plain_kind w ≡ MessageKind.User
user_kind w h1 = search arith

users_by : (pt : Point) (h : Phased pt) (n : ℕ) (p : Pid) (i : MsgId) → 1 ≤ times i (pt.view.queue n p) → IsQueued (h.state.e i) p (pt.kernel.bag i) → IsUsers pt.view.told p i
users_by pt h n p i least q =
    let other : is_kernels i ≡ false = entered_other pt h i (is_kernels i) refl q.entered in
    let (x, way) = stands_some (standing pt.view i) (Queue n p) (letters h.state.own pt.kernel.bag i) (h.state.stands.kept i) least in
    let (m, there) = bag_some (pt.kernel.bag i) x (sym (letters_bag h.state.own pt.kernel.bag i other) ∙ way) in
    let (t, told) = told_some (pt.view.told i) x (h.state.stands.told i x way) in
    let k = q.is m there in
    search (arith, h.sane.tells.kind i m t there told ∙ user_kind m.what k.1, h.sane.tells.receiver i m t there told ∙ k.0)

pub waits_by : (pt : Point) (h : Phased pt) → ((n : ℕ) (p : Pid) (i : MsgId) → 1 ≤ times i (pt.view.queue n p) → IsQueued (h.state.e i) p (pt.kernel.bag i))
    → ((n : ℕ) (p : Pid) (i : MsgId) → 1 ≤ times i (pt.view.held n p) → (t : Told) × (pt.view.told i ≡ Some t) × (t.receiver ≡ p)) → Waits pt.view
waits_by pt h queued held = search (arith, users_by)

-- A queue only where a process is or leaves, and held messages only where it leaves or comes: each group keeps it. Behind an end the
-- queue goes message by message, so what has ended is left out of it.
pub record LiveLists (s : OneKernel) (v : View) : Type 0 where
  pub queue : (m : ℕ) (p : Pid) → has_no_queue (v.known m p) ≡ true → (life_sort (s.processes p) ≡ Some false → ⊥) → v.queue m p ≡ []
  pub held : (m : ℕ) (p : Pid) → has_nothing_held (v.known m p) ≡ true → v.held m p ≡ []

-- what has ended stays so
abbrev Older : OneKernel → OneKernel → Type 0
Older s t = (q : Pid) → (life_sort (t.processes q) ≡ Some false → ⊥) → life_sort (s.processes q) ≡ Some false → ⊥

older_label : (pt : Point) (t : OneKernel) (l : Label) → Sane pt → kernel.step pt.kernel l ≡ Some t → Older pt.kernel t
older_label pt t l h e q live over = live (ended_stays (pt.kernel.processes q) (t.processes q) ((after_step h.r h.e pt.kernel t l e h.sound).grown.lives q) over)

older_by : (pt : Point) (t : OneKernel) (o : Option Label) → Sane pt → kernel_after pt.kernel o ≡ Some t → Older pt.kernel t
older_by pt t None h e = let f : pt.kernel ≡ t = cc in subst (Older pt.kernel) f (λ q live. live)
older_by pt t (Some l) h e = older_label pt t l h e

-- what one says of a list
abbrev NoQueue : OneKernel → View → ℕ → Pid → List MsgId → Type 0
NoQueue s v n q xs = has_no_queue (v.known n q) ≡ true → (life_sort (s.processes q) ≡ Some false → ⊥) → xs ≡ []

abbrev NoneHeld : View → ℕ → Pid → List MsgId → Type 0
NoneHeld v n q xs = has_nothing_held (v.known n q) ≡ true → xs ≡ []

lists_as : (s t : OneKernel) (v w : View) → Older s t → w.known ≡ v.known → w.queue ≡ v.queue → w.held ≡ v.held → LiveLists s v → LiveLists t w
lists_as s t v w older known queue held h = record {
  queue = λ m p e live. ap (λ (f : ℕ → Pid → List MsgId). f m p) queue ∙ h.queue m p (sym (ap (λ (f : ℕ → Pid → Known). has_no_queue (f m p)) known) ∙ e) (older p live);
  held = λ m p e. ap (λ (f : ℕ → Pid → List MsgId). f m p) held ∙ h.held m p (sym (ap (λ (f : ℕ → Pid → Known). has_nothing_held (f m p)) known) ∙ e);
}

-- a machine learns something of a process
lists_learn : (s t : OneKernel) (v w : View) (p : Pid) (k : Known) → Older s t → w.known ≡ at_record v.known v.acting p k → w.queue ≡ v.queue → w.held ≡ v.held
    → (has_no_queue k ≡ true → (life_sort (t.processes p) ≡ Some false → ⊥) → v.queue v.acting p ≡ []) → (has_nothing_held k ≡ true → v.held v.acting p ≡ []) → LiveLists s v → LiveLists t w
lists_learn s t v w p k older known queue held no_queue none h = record {
  queue = λ m q e live. ap (λ (f : ℕ → Pid → List MsgId). f m q) queue
      ∙ set_all (λ n r x. has_no_queue x ≡ true → (life_sort (t.processes r) ≡ Some false → ⊥) → v.queue n r ≡ []) v.known v.acting p k no_queue (λ n r off e_ live_. h.queue n r e_ (older r live_)) m q
      (sym (ap (λ (f : ℕ → Pid → Known). has_no_queue (f m q)) known) ∙ e) live;
  held = λ m q e. ap (λ (f : ℕ → Pid → List MsgId). f m q) held
      ∙ set_all (λ n r x. has_nothing_held x ≡ true → v.held n r ≡ []) v.known v.acting p k none (λ n r off. h.held n r) m q (sym (ap (λ (f : ℕ → Pid → Known). has_nothing_held (f m q)) known) ∙ e);
}

-- a process ends: what has a queue then has ended
lists_ended : (s t : OneKernel) (v : View) (p : Pid) → Older s t → life_sort (t.processes p) ≡ Some false → v.known v.acting p ≡ Here → LiveLists s v → LiveLists t (view.ended v p)
lists_ended s t v p older over here h = lists_learn s t v (view.ended v p) p Unknown older refl refl refl (λ e live. absurd (live over)) (λ e. h.held v.acting p (ap has_nothing_held here)) h

lists_served : (s t : OneKernel) (v : View) (o : Option Told) → Older s t → ((u : Told) → o ≡ Some u → is_kill u.kind ≡ true → (v.known v.acting u.receiver ≡ Here) × (life_sort (t.processes u.receiver) ≡ Some false)) → LiveLists s v → LiveLists t (served_told v o)
lists_served s t v None older need h = lists_as s t v v older refl refl refl h
lists_served s t v (Some u) older need h =
    killed_or (LiveLists t) u.kind v u.receiver (λ kills. let k = need u refl kills in lists_ended s t v u.receiver older k.1 k.0 h) (λ mild. lists_as s t v v older refl refl refl h)

-- what a message kills is here, and ends
kills_here : (pt : Point) (t : OneKernel) (id : MsgId) (u : Told) → Serves pt.view id → Sane pt → kernel.step pt.kernel (Label.Served id) ≡ Some t → pt.view.told id ≡ Some u → is_kill u.kind ≡ true
    → (pt.view.known pt.view.acting u.receiver ≡ Here) × (life_sort (t.processes u.receiver) ≡ Some false)
kills_here pt t id u serves sane is told kills =
    let l = step_serves pt.kernel t id is in
    let f : Some serves.told ≡ Some u = sym serves.is ∙ told in
    let same : serves.told ≡ u = cc in
    let kind : u.kind ≡ plain_kind l.message.what = sane.tells.kind id l.message u l.there told in
    let to : u.receiver ≡ l.message.to = sane.tells.receiver id l.message u l.there told in (
      subst (λ (x : Told). is_kill x.kind ≡ true → pt.view.known pt.view.acting x.receiver ≡ Here) same (λ k. (serves.rests k).here) kills,
      ap (λ (q : Pid). life_sort (t.processes q)) to ∙ (l.served.kill (sym (ap is_kill kind) ∙ kills)).at_,
    )

-- a queue or a held list changes
lists_queue : (s t : OneKernel) (v w : View) (p : Pid) (xs : List MsgId) → Older s t → w.known ≡ v.known → w.queue ≡ at_record v.queue v.acting p xs → w.held ≡ v.held → NoQueue t v v.acting p xs → LiveLists s v → LiveLists t w
lists_queue s t v w p xs older known queue held mine h = record {
  queue = λ m q e live. ap (λ (f : ℕ → Pid → List MsgId). f m q) queue
      ∙ set_all (NoQueue t v) v.queue v.acting p xs mine (λ n r off e_ live_. h.queue n r e_ (older r live_)) m q (sym (ap (λ (f : ℕ → Pid → Known). has_no_queue (f m q)) known) ∙ e) live;
  held = λ m q e. ap (λ (f : ℕ → Pid → List MsgId). f m q) held ∙ h.held m q (sym (ap (λ (f : ℕ → Pid → Known). has_nothing_held (f m q)) known) ∙ e);
}

same_lives : (s : OneKernel) → Older s s
same_lives s q live = live

lists_dropped : (s t : OneKernel) (v : View) (id : MsgId) (o : Option Pid) → Older s t → LiveLists s v → LiveLists t (view.dropped_for (handled v id) id o)
lists_dropped s t v id None older h = lists_as s t v (handled v id) older refl refl refl h
lists_dropped s t v id (Some p) older h =
    lists_queue s t v (view.dropped_for (handled v id) id (Some p)) p (without_front id (v.queue v.acting p)) older refl refl refl (λ e live. ap (without_front id) (h.queue v.acting p e (older p live))) h

lists_queued : (s : OneKernel) (v : View) (id : MsgId) (o : Option Told) → ((u : Told) → o ≡ Some u → has_no_queue (v.known v.acting u.receiver) ≡ false) → LiveLists s v → LiveLists s (view.queued_for (handled v id) id (receiver_of o))
lists_queued s v id None need h = lists_as s s v (handled v id) (same_lives s) refl refl refl h
lists_queued s v id (Some u) need h =
    lists_queue s s v (view.queued_for (handled v id) id (Some u.receiver)) u.receiver (v.queue v.acting u.receiver ++ id ∷ []) (same_lives s) refl refl refl (λ e live. absurd (false≢true (sym (need u refl) ∙ e))) h

lists_held_for : (s : OneKernel) (v : View) (id : MsgId) (o : Option Told) → ((u : Told) → o ≡ Some u → has_nothing_held (v.known v.acting u.receiver) ≡ false) → LiveLists s v → LiveLists s (view.held_for (handled v id) id (receiver_of o))
lists_held_for s v id None need h = lists_as s s v (handled v id) (same_lives s) refl refl refl h
lists_held_for s v id (Some u) need h = record {
  queue = h.queue;
  held = set_all (NoneHeld v) v.held v.acting u.receiver (v.held v.acting u.receiver ++ id ∷ []) (λ e. absurd (false≢true (sym (need u refl) ∙ e))) (λ n r off. h.held n r);
}

-- a machine learns something of a process, and holds nothing for it any more
lists_unheld : (s : OneKernel) (v w : View) (p : Pid) (k : Known) → w.known ≡ at_record v.known v.acting p k → w.queue ≡ v.queue → w.held ≡ at_record v.held v.acting p []
    → (has_no_queue k ≡ true → (life_sort (s.processes p) ≡ Some false → ⊥) → v.queue v.acting p ≡ []) → LiveLists s v → LiveLists s w
lists_unheld s v w p k known queue held no_queue h =
    let a = v.acting in
    record {
      queue = λ m q e live. ap (λ (f : ℕ → Pid → List MsgId). f m q) queue
          ∙ set_all (λ n r x. has_no_queue x ≡ true → (life_sort (s.processes r) ≡ Some false → ⊥) → v.queue n r ≡ []) v.known a p k no_queue (λ n r off. h.queue n r) m q (sym (ap (λ (f : ℕ → Pid → Known). has_no_queue (f m q)) known) ∙ e) live;
      held = λ m q e. ap (λ (f : ℕ → Pid → List MsgId). f m q) held
          ∙ set_all (λ n r xs. has_nothing_held (at_record v.known a p k n r) ≡ true → xs ≡ []) v.held a p [] (λ e. refl)
          (λ n r off e. h.held n r (sym (ap (λ (c : Bool). has_nothing_held (if c then k else v.known n r)) off) ∙ e)) m q (sym (ap (λ (f : ℕ → Pid → Known). has_nothing_held (f m q)) known) ∙ e);
    }

-- a process is here again: what was held comes to the inbox
lists_rejoins : (s : OneKernel) (v w : View) (p : Pid) → w.known ≡ at_record v.known v.acting p Here → w.queue ≡ v.queue → w.held ≡ at_record v.held v.acting p [] → LiveLists s v → LiveLists s w
lists_rejoins s v w p known queue held h = lists_unheld s v w p Here known queue held (λ e live. absurd (false≢true e)) h

pub away_queue : (k : Known) → is_away k ≡ true → has_no_queue k ≡ true
away_queue k h1 = search arith

away_held : (k : Known) → is_away k ≡ true → has_nothing_held k ≡ true
away_held k h1 = search arith

-- a process is forgotten that has ended
lists_buried : (s : OneKernel) (v : View) (o : Option Told) → ((u : Told) (p : Pid) → o ≡ Some u → u.about ≡ view.Of p → Buries s v p) → LiveLists s v → LiveLists s (view.buried_for v o)
lists_buried s v None tells h = h
lists_buried s v (Some u) tells h = by u.about (λ p e. tells u p refl e)
  where
    by : (a : view.About) → ((p : Pid) → a ≡ view.Of p → Buries s v p) → LiveLists s (view.forgotten v a)
    by (view.Of p) k = let b = k p refl in lists_learn s s v (view.forgotten v (view.Of p)) p Unknown (same_lives s) refl refl refl (λ e live. absurd (live b.over)) (λ e. h.held v.acting p (away_held (v.known v.acting p) (b.away v.acting))) h
    by _ k = h

lists_loud : Loud (λ pt. LiveLists pt.kernel pt.view)
lists_loud = record {
  rides = (search arith);
  quiet = λ pt w t l e s told alike sane is h. subst (LiveLists t) (sym e) (lists_as pt.kernel t pt.view w (older_by pt t (label_of l) sane is) s.known s.queue s.held h);
  ran = λ pt t p k here alike sane is h. lists_as pt.kernel t pt.view (view.view_after pt.view (Line.Label (Label.Ran p k))) (older_label pt t (Label.Ran p k) sane is) refl refl refl h;
  receive = λ pt t p id here alike sane is h.
      let v = pt.view in
      let older = older_label pt t (Label.Receive p id) sane is in
      lists_queue pt.kernel t v (view.view_after v (Line.Label (Label.Receive p id))) p (without_id id (v.queue v.acting p)) older refl refl refl (λ e live. ap (without_id id) (h.queue v.acting p e (older p live))) h;
  refuse = λ pt t p id c here alike sane is h. lists_as pt.kernel t pt.view (view.view_after pt.view (Line.Label (Label.Refuse p id c))) (older_label pt t (Label.Refuse p id c) sane is) refl refl refl h;
  end = λ pt t p y rests sane is h. lists_ended pt.kernel t pt.view p (older_label pt t (Label.End p y) sane is) (step_ends pt.kernel t p y is).set.at_ rests.here h;
  dropped = λ pt t id alike sane is h. lists_dropped pt.kernel t pt.view id (receiver_of (pt.view.told id)) (older_label pt t (Label.Dropped id) sane is) h;
  served = λ pt t id serves sane is h.
      lists_served pt.kernel t (handled pt.view id) (pt.view.told id) (older_label pt t (Label.Served id) sane is) (λ u told kills. kills_here pt t id u serves sane is told kills) (record { queue = h.queue; held = h.held });
  created = λ pt t id p unborn sane is h.
      lists_learn pt.kernel t pt.view (view.view_after pt.view (Line.Label (Label.Created id p))) p Here (older_label pt t (Label.Created id p) sane is) refl refl refl
      (λ e live. absurd (false≢true e)) (λ e. h.held pt.view.acting p (ap has_nothing_held (unborn.unknown pt.view.acting))) h;
  queued = λ pt id need sane h. lists_queued pt.kernel pt.view id (pt.view.told id) (λ t e. ap has_no_queue (need t e).here) h;
  held = λ pt id need sane h. lists_held_for pt.kernel pt.view id (pt.view.told id) need h;
  frozen = λ pt p lives here h.
      let set = sets pt.view p pt.view.topic in
      lists_learn pt.kernel pt.kernel pt.view (view.after_stage pt.view p Stage.Frozen) p (Frozen (aim pt.view pt.view.topic)) (same_lives pt.kernel) set.known set.queue set.held (λ e live. absurd (false≢true e)) (λ e. h.held pt.view.acting p (ap has_nothing_held here)) h;
  accepted = λ pt p lives away h.
      lists_learn pt.kernel pt.kernel pt.view (view.after_stage pt.view p Stage.Accepted) p (Incoming (front_of (pt.view.inbox pt.view.acting))) (same_lives pt.kernel) refl refl refl
      (λ e live. h.queue pt.view.acting p (away_queue (pt.view.known pt.view.acting p) away) live) (λ e. absurd (false≢true e)) h;
  left = λ pt p leaves h.
      lists_learn pt.kernel pt.kernel pt.view (view.after_stage pt.view p Stage.Left) p (gone_to (pt.view.known pt.view.acting p) (pt.view.moves p + 1)) (same_lives pt.kernel) refl refl refl (λ e live. leaves.queue) (λ e. leaves.held) h;
  restarted = λ pt p lives off h. lists_rejoins pt.kernel pt.view (view.after_stage pt.view p Stage.Restarted) p refl refl refl h;
  stays_ = λ pt p lives off h. lists_rejoins pt.kernel pt.view (view.view_after pt.view (Line.Stays p)) p refl refl refl h;
  sent_on = λ pt p n h.
      let v = pt.view in
      record { queue = set_all (NoQueue pt.kernel v) v.queue v.acting p [] (λ e live. refl) (λ n r off. h.queue n r); held = set_all (NoneHeld v) v.held v.acting p [] (λ e. refl) (λ n r off. h.held n r) };
  called = λ pt p n calls h.
      let v = pt.view in
      lists_unheld pt.kernel v (view.view_after v (Line.Called p n)) p (view.goes_back (v.known v.acting p) (v.moves p)) refl refl refl (λ e live. h.queue v.acting p (ap has_no_queue calls.comes) live) h;
  buried = λ pt id n tells sane h. lists_buried pt.kernel (handled pt.view id) (pt.view.told id) (λ u p told about. let b = tells u p told about in record { over = b.over; away = b.away; server = b.server }) (record { queue = h.queue; held = h.held });
}

pub lists_start : (b : Boot) → LiveLists (first_point b).kernel (first_point b).view
lists_start b = record { queue = λ m p e live. refl; held = λ m p e. refl }

pub lists_group : (b : Boot) (pt : Point) (d : Step) (w : Spelled) → group_of b pt d ≡ Some w → Phased pt → KnownStands pt.kernel pt.view → LiveLists pt.kernel pt.view → LiveLists w.point.kernel w.point.view
lists_group b pt d w is phased known h = group_keeps (λ q. LiveLists q.kernel q.view) (keeps_by (λ q. LiveLists q.kernel q.view) lists_loud) b pt d w is phased known h
