-- Where a process has ended no message is queued for it.
use Rattle.dm_law_moves.proofs.Names.{◌≡◌, ◌⊎◌, ℕ, ◌≤◌, ◌==◌, Bool, true, false, List, [], ◌∷◌, ◌++◌, refl, ap, ◌∙◌, sym, subst, inl, inr, arith, cases_Bool, false≢true, nat_tests, ⊤, Option, None, Some, Pid, MsgId, Boot, Label, id_eq-same}
use Rattle.dm_law_moves.proofs.Names.{Step, Line, Part, Says, Owns, Spelled, spelled, Point, moved, group_of, times, View, Told, Here, view_after, handled, PlainMessage, IsValid, Leads, first_point, Spot, Queue, standing, StandsRight}
use Rattle.dm_law_moves.proofs.Names.{is_kernels, group_is, arrives_net, resends_net, stands_right, kernels_fresh, not_true, is_kill, plain_kind, says_next, DropsAlways, killed_or, Run, told_of, more_front, migrates, by_migrates, calls_off}
use Rattle.dm_law_moves.proofs.Names.{OneKernel, is_away, by_calls_off, to_kernel, map, MessageKind, pid_eq, pid_eq-is, eq_is, hushed, served_told, life_sort, step_alike, step_ends, step_serves, SetLife, begins, resting}
use Rattle.dm_law_moves.proofs.Names.{turned, Life, slice_get, own_id, ListsStand}
use Rattle.dm_law_rule.specs.Rule as rule
use Rattle.dm_law_rule.specs.Burying as bury
use Rattle.dm_onekernel.specs.Step as kernel
use Rattle.dm_law_moves.proofs.At.RestOnly.{AllStay, Ends, Stay, Mild, Kills, Runs, turns_ends, Only, parts_only, label_only, net_stays, is_ending, emptied_group, dead_in, dead_away, is_dead, dead_alike, sends_stay}
use Rattle.dm_law_moves.proofs.After.{keeps_always}
use Rattle.dm_law_moves.proofs.Leading.{Behind, All, net_says, parts_lead}
use Rattle.dm_law_always.proofs.Based.Queues.{away_queue}

-- what is left of the queue of a process that has ended
record Left (a : ℕ) (p : Pid) (v : View) (ids : List MsgId) : Type 0 where
  acting : v.acting ≡ a
  queue : v.queue a p ≡ ids
  others : (n : ℕ) → (a == n) ≡ false → v.queue n p ≡ []
  told : (i : MsgId) → 1 ≤ times i ids → (t : Told) × (v.told i ≡ Some t) × (t.receiver ≡ p)

drop_left : (a : ℕ) (p : Pid) (v : View) (i : MsgId) (is : List MsgId) → Left a p v (i ∷ is) → Left a p (view_after v (Line.Label (Label.Dropped i))) is
drop_left a p v i is h = grind (arith, nat_tests, id_eq-same, more_front)

-- and nobody else has ended since
record Lost (before : Pid → Bool) (a : ℕ) (p : Pid) (pt : Point) (ids : List MsgId) : Type 0 where
  left : Left a p pt.view ids
  only : (q : Pid) → pid_eq p q ≡ false → dead_in pt.kernel q ≡ true → before q ≡ true

drops_lost : (before : Pid → Bool) (a : ℕ) (p : Pid) (P : Point → Type 0) (ids : List MsgId) (ps : List Part) (pt : Point) (w : Spelled) → spelled pt (rule.drop_parts ids ++ ps) ≡ Some w → Lost before a p pt ids
    → ((q : Point) (z : Spelled) → spelled q ps ≡ Some z → Lost before a p q [] → P z.point) → P w.point
drops_lost before a p P [] ps pt w is h more = more pt w is h
drops_lost before a p P (i ∷ ids) ps pt w is h more =
    let k = says_next pt (Line.Label (Label.Dropped i)) (rule.drop_parts ids ++ ps) w is in
    let next = moved pt (Line.Label (Label.Dropped i)) k.s in
    let lost : Lost before a p next ids = record {
      left = drop_left a p pt.view i ids h.left;
      only = λ q off dead. h.only q off (dead_alike (next.kernel.processes q) (pt.kernel.processes q) (step_alike pt.kernel k.s (Label.Dropped i) refl k.is q) dead);
    } in
    subst P k.point (drops_lost before a p P ids ps next k.rest k.more lost more)

-- others are told
abbrev IsOwn : Part → Type 0
IsOwn (Owns k q b) = ⊤
IsOwn _ = ⊥

all_own : (ms : List ℕ) → All IsOwn (map (to_kernel MessageKind.Bury) ms)
all_own [] = tt
all_own (m ∷ ms) = (tt, all_own ms)

none_left : (T : Type 0) (i : MsgId) → 1 ≤ times i [] → T
none_left T i least = absurd (let k : 1 ≤ 0 = least in omega (arith, k))

lost_as : (before : Pid → Bool) (a : ℕ) (p : Pid) (pt next : Point) → next.kernel ≡ pt.kernel → next.view.acting ≡ pt.view.acting → next.view.queue ≡ pt.view.queue → Lost before a p pt [] → Lost before a p next []
lost_as before a p pt next same acting queue h = record {
  left = record {
    acting = acting ∙ h.left.acting;
    queue = ap (λ (f : ℕ → Pid → List MsgId). f a p) queue ∙ h.left.queue;
    others = λ n off. ap (λ (f : ℕ → Pid → List MsgId). f n p) queue ∙ h.left.others n off;
    told = λ i least. none_left ((t : Told) × (next.view.told i ≡ Some t) × (t.receiver ≡ p)) i least;
  };
  only = λ q off dead. h.only q off (sym (ap (λ (s : OneKernel). dead_in s q) same) ∙ dead);
}

own_lost : (before : Pid → Bool) (a : ℕ) (p : Pid) (pt : Point) (x : Part) → IsOwn x → Lost before a p pt [] → Behind (λ q. Lost before a p q []) pt x
own_lost before a p pt (Owns k q b) own h = lost_as before a p pt (moved pt (Line.Put pt.view.acting b (own_id pt.view) k q) pt.kernel) refl refl refl h
own_lost before a p pt _ own h = absurd own

buries_lost : (before : Pid → Bool) (a : ℕ) (p : Pid) (ms : List ℕ) (pt : Point) (w : Spelled) → spelled pt (map (to_kernel MessageKind.Bury) ms) ≡ Some w → Lost before a p pt [] → Lost before a p w.point []
buries_lost before a p ms pt w is h = parts_lead (λ q. Lost before a p q []) (λ q x y k l g. lost_as before a p q (moved q (Line.Packet x y k l) q.kernel) refl refl refl g) IsOwn (own_lost before a p) (map (to_kernel MessageKind.Bury) ms) pt w (all_own ms) is h

-- who has ended had ended, or has no queue
record Cleared (before : Pid → Bool) (pt : Point) : Type 0 where
  each : (n : ℕ) (q : Pid) → dead_in pt.kernel q ≡ true → (before q ≡ true) ⊎ (pt.view.queue n q ≡ [])

cleared_only : (before : Pid → Bool) (pt : Point) → Only before pt.kernel → Cleared before pt
cleared_only before pt h = record { each = λ n q e. inl (h.only q e) }

cleared_lost : (before : Pid → Bool) (a : ℕ) (p : Pid) (pt : Point) → Lost before a p pt [] → Cleared before pt
cleared_lost before a p pt h = record {
  each = λ n q dead. elim (cases_Bool (pid_eq p q)) [
    | inl same ↦ inr (ap (λ (r : Pid). pt.view.queue n r) (sym (pid_eq-is p q same)) ∙ elim (cases_Bool (a == n)) [
      | inl here ↦ ap (λ (k : ℕ). pt.view.queue k p) (sym (eq_is a n here)) ∙ h.left.queue
      | inr off ↦ h.left.others n off
    ])
    | inr off ↦ inl (h.only q off dead)
  ];
}

-- what follows an end
ends_lost : (before : Pid → Bool) (o : Point) (a : ℕ) (p : Pid) (mid : Point) (rest : Spelled) → Lost before a p mid (o.view.queue a p) → spelled mid (bury.ends_with o a p) ≡ Some rest → Cleared before rest.point
ends_lost before o a p mid rest h is =
    drops_lost before a p (Cleared before) (o.view.queue a p) (bury.buries o a p) mid rest is h (λ q z more lost. cleared_lost before a p z.point (buries_lost before a p (bury.preds_of o a p) q z more lost))

-- where a turn begins
record Starts (o : Point) (a : ℕ) : Type 0 where
  receivers : (p : Pid) (i : MsgId) → 1 ≤ times i (o.view.queue a p) → (t : Told) × (o.view.told i ≡ Some t) × (t.receiver ≡ p)
  others : (p : Pid) → o.view.known a p ≡ Here → (n : ℕ) → (a == n) ≡ false → o.view.queue n p ≡ []

set_lost : (o : Point) (a : ℕ) (p : Pid) (s : OneKernel) (mid : Point) → Starts o a → o.view.known a p ≡ Here → mid.view.acting ≡ a → mid.view.queue ≡ o.view.queue → mid.view.told ≡ o.view.told → Only (dead_in o.kernel) s → SetLife s mid.kernel p (Some false) → Lost (dead_in o.kernel) a p mid (o.view.queue a p)
set_lost o a p s mid start here acting queue told old set = record {
  left = record {
    acting = acting;
    queue = ap (λ (f : ℕ → Pid → List MsgId). f a p) queue;
    others = λ n off. ap (λ (f : ℕ → Pid → List MsgId). f n p) queue ∙ start.others p here n off;
    told = λ i least. (let (t, is, to) = start.receivers p i least in (t, ap (λ (f : MsgId → Option Told). f i) told ∙ is, to));
  };
  only = λ q off dead. old.only q (dead_alike (mid.kernel.processes q) (s.processes q) (set.off q off) dead);
}

begins_only : (o : Point) → Only (dead_in o.kernel) o.kernel
begins_only o = record { only = λ q e. e }

-- what a message leaves that is served
served_queue : (v : View) (o : Option Told) → (served_told v o).queue ≡ v.queue
served_queue v None = refl
served_queue v (Some t) = killed_or (λ w. w.queue ≡ v.queue) t.kind v t.receiver (λ e. refl) (λ e. refl)

served_acting : (v : View) (o : Option Told) → (served_told v o).acting ≡ v.acting
served_acting v None = refl
served_acting v (Some t) = killed_or (λ w. w.acting ≡ v.acting) t.kind v t.receiver (λ e. refl) (λ e. refl)

-- it kills its receiver, or nobody
kill_set : (s t : OneKernel) (id : MsgId) (msg : PlainMessage) → kernel.step s (Label.Served id) ≡ Some t → s.bag id ≡ Some msg → is_kill (plain_kind msg.what) ≡ true → SetLife s t msg.to (Some false)
kill_set s t id msg is there kills =
    let k = step_serves s t id is in
    let same : k.message ≡ msg = (let e = sym k.there ∙ there in cc) in
    subst (λ (m : PlainMessage). SetLife s t m.to (Some false)) same (k.served.kill (ap (λ (m : PlainMessage). is_kill (plain_kind m.what)) same ∙ kills))

mild_only : (before : Pid → Bool) (s t : OneKernel) (id : MsgId) (msg : PlainMessage) → kernel.step s (Label.Served id) ≡ Some t → s.bag id ≡ Some msg → is_kill (plain_kind msg.what) ≡ false → Only before s → Only before t
mild_only before s t id msg is there mild h =
    let k = step_serves s t id is in
    let same : k.message ≡ msg = (let e = sym k.there ∙ there in cc) in
    let alike = k.served.other (ap (λ (m : PlainMessage). is_kill (plain_kind m.what)) same ∙ mild) in
    record { only = λ q dead. h.only q (dead_alike (t.processes q) (s.processes q) (alike q) dead) }

stays_cleared : (b : Boot) (pt : Point) (d : Step) (w : Spelled) → group_of b pt d ≡ Some w → ((ps : List Part) → rule.outcome b pt d ≡ Some ps → AllStay ps) → Cleared (dead_in pt.kernel) w.point
stays_cleared b pt d w is stays =
    let g = group_is b pt d w is in
    subst (Cleared (dead_in pt.kernel)) g.point (cleared_only (dead_in pt.kernel) g.rest.point (parts_only (dead_in pt.kernel) g.parts (moved pt (Line.Head d) pt.kernel) g.rest (stays g.parts g.is) g.said (begins_only pt)))

ends_cleared : (o : Point) (a : ℕ) (ps : List Part) (z : Spelled) → Starts o a → Ends o a ps → spelled (turned o a) ps ≡ Some z → Cleared (dead_in o.kernel) z.point
ends_cleared o a ps z h (Stay stays) is = cleared_only (dead_in o.kernel) z.point (parts_only (dead_in o.kernel) ps (turned o a) z stays is (begins_only o))
ends_cleared o a ps z h (Mild id msg rest form stays there mild) is =
    let before = dead_in o.kernel in
    let k = says_next (turned o a) (Line.Label (Label.Served id)) rest z (ap (spelled (turned o a)) (sym form) ∙ is) in
    let next = moved (turned o a) (Line.Label (Label.Served id)) k.s in
    subst (Cleared before) k.point (cleared_only before k.rest.point (parts_only before rest next k.rest stays k.more (mild_only before o.kernel k.s id msg k.is there mild (begins_only o))))
ends_cleared o a ps z h (Kills id msg form there kills here) is =
    let pt = turned o a in
    let k = says_next pt (Line.Label (Label.Served id)) (bury.ends_with o a msg.to) z (ap (spelled pt) (sym form) ∙ is) in
    let next = moved pt (Line.Label (Label.Served id)) k.s in
    let lost : Lost (dead_in o.kernel) a msg.to next (o.view.queue a msg.to) = set_lost o a msg.to o.kernel next h here
    (served_acting (handled pt.view id) (pt.view.told id)) (served_queue (handled pt.view id) (pt.view.told id)) (hushed pt.view (Line.Label (Label.Served id)) refl).told (begins_only o) (kill_set o.kernel k.s id msg k.is there kills) in
    subst (Cleared (dead_in o.kernel)) k.point (ends_lost (dead_in o.kernel) o a msg.to next k.rest lost k.more)
ends_cleared o a ps z h (Runs p n y form here) is =
    let pt = turned o a in
    let before = dead_in o.kernel in
    let k = says_next pt (Line.Label (Label.Ran p n)) (rule.says (Label.End p y) ∷ bury.ends_with o a p) z (ap (spelled pt) (sym form) ∙ is) in
    let mid = moved pt (Line.Label (Label.Ran p n)) k.s in
    let g = says_next mid (Line.Label (Label.End p y)) (bury.ends_with o a p) k.rest k.more in
    let next = moved mid (Line.Label (Label.End p y)) g.s in
    let lost : Lost before a p next (o.view.queue a p) = set_lost o a p k.s next h here refl refl refl
    (label_only before o.kernel k.s (Label.Ran p n) refl k.is (begins_only o)) (step_ends k.s g.s p y g.is).set in
    subst (Cleared before) k.point (subst (Cleared before) g.point (ends_lost before o a p next g.rest lost g.more))

receivers : (b : Boot) (pt : Point) (a : ℕ) (p : Pid) (i : MsgId) → Run b pt → 1 ≤ times i (pt.view.queue a p) → (t : Told) × (pt.view.told i ≡ Some t) × (t.receiver ≡ p)
receivers b pt a p i h least =
    let in_bag : (i : MsgId) (x : Option PlainMessage) (f : Spot → ℕ) (z : Spot) → 1 ≤ f z → is_kernels i ≡ false → StandsRight i x f → (m : PlainMessage) × (x ≡ Some m) = λ i x f z least off h. grind (arith, nat_tests) in
    let q = h.based.queued a p i least in
    let entered = q.entered in
    let state = h.based.phased.state in
    let off : is_kernels i ≡ false = not_true (is_kernels i) (λ e. let zero_ = kernels_fresh state.r state.e pt.kernel i state.sound e in omega (arith, entered, zero_)) in
    let (x, there) = in_bag i (pt.kernel.bag i) (standing pt.view i) (Queue a p) least off (stands_right pt i state (pt.kernel.bag i) refl) in
    let (t, told) = told_of (pt.view.told i) (h.found.told i (Queue a p) least) in
    (t, told, h.based.phased.sane.tells.receiver i x t there told ∙ (q.is x there).0)

pub sort_dead : (o : Option Life) → life_sort o ≡ Some false → is_dead o ≡ true
sort_dead (Some (Life.Ended y)) e = refl
sort_dead (Some (Life.Alive x)) e = cc
sort_dead None e = cc

turn_starts : (b : Boot) (pt : Point) (a : ℕ) → Run b pt → Starts pt a
turn_starts b pt a h = record {
  receivers = λ p i least. receivers b pt a p i h least;
  others = λ p here n off.
      let s = begins pt a h.based.phased h.based.known in
      let rests = resting (turned pt a).view p s.phases here in
      h.based.lists.queue n p (away_queue (pt.view.known n p) (rests.away n off))
      (λ over. false≢true (ap is_away (sym here) ∙ dead_away pt a p h.based.phased (sort_dead (pt.kernel.processes p) over)));
}

-- a group
group_cleared : (b : Boot) (pt : Point) (d : Step) (w : Spelled) → group_of b pt d ≡ Some w → Run b pt → Cleared (dead_in pt.kernel) w.point
group_cleared b pt (Step.Turn m) w is h =
    let g = group_is b pt (Step.Turn m) w is in
    let s = begins pt m h.based.phased h.based.known in
    let ends : Ends pt m g.parts = turns_ends b pt m (pt.view.inbox m) g.parts (λ p runs. s.rooted.served m p runs) g.is in
    subst (Cleared (dead_in pt.kernel)) g.point (ends_cleared pt m g.parts g.rest (turn_starts b pt m h) ends g.said)
group_cleared b pt (Step.Tick m) w is h = stays_cleared b pt (Step.Tick m) w is (λ ps e. subst AllStay (let f : Says (Line.Resent m (rule.outstanding_count pt.view m pt.kernel.machines)) ∷ rule.resends pt.view m pt.kernel.machines ≡ ps = cc in f)
    (refl, net_says (λ l. is_ending l ≡ false) net_stays (rule.resends pt.view m pt.kernel.machines) (resends_net pt.view m pt.kernel.machines)))
group_cleared b pt (Step.Deliver a c k) w is h = stays_cleared b pt (Step.Deliver a c k) w is (λ ps e.
    let qs = rule.arrives a c (pt.view.pair a c) (pt.view.pair c a) (slice_get (pt.view.pair a c).wire k) in
    subst AllStay (let f : qs ≡ ps = cc in f) (net_says (λ l. is_ending l ≡ false) net_stays qs (arrives_net a c (pt.view.pair a c) (pt.view.pair c a) (slice_get (pt.view.pair a c).wire k))))
group_cleared b pt (Step.Migrate p m) w is h = stays_cleared b pt (Step.Migrate p m) w is (λ ps e.
    subst AllStay (let f : migrates pt p ≡ ps = cc in f) (by_migrates AllStay pt p (refl, tt) (refl, tt) (λ n off is. (tt, tt))))
group_cleared b pt (Step.CallOff p m) w is h = stays_cleared b pt (Step.CallOff p m) w is (λ ps e.
    subst AllStay (let f : calls_off pt m p (pt.view.known m p) ≡ ps = cc in f)
    (by_calls_off AllStay pt m p (refl, tt) (λ from is come. (refl, sends_stay from (pt.view.held m p) (to_kernel MessageKind.CallOff from ∷ []) (tt, tt)))))

-- no message waits anywhere for a process that has ended
pub record Dropped (pt : Point) : Type 0 where
  pub queue : (n : ℕ) (q : Pid) → dead_in pt.kernel q ≡ true → pt.view.queue n q ≡ []

dropped_group : (b : Boot) (pt : Point) (d : Step) (w : Spelled) → group_of b pt d ≡ Some w → Run b pt → Dropped pt → Dropped w.point
dropped_group b pt d w is h old =
    let emptied = emptied_group b pt d w is h.based.phased h.based.known old.queue in
    let cleared = group_cleared b pt d w is h in
    record {
      queue = λ n q e. elim (cleared.each n q e) [
        | inl had ↦ emptied.queue n q had
        | inr none ↦ none
      ];
    }

pub dropped_always : (b : Boot) (es : List Step) (pt : Point) → IsValid b → Leads b (first_point b) es pt → Dropped pt
dropped_always b es pt valid leads = keeps_always b Dropped (λ q d w fit is run old. dropped_group b q d w is run old) valid (record { queue = λ n q e. refl }) es pt leads

pub drops_always : DropsAlways
drops_always b es pt n q valid leads (y, over) = (dropped_always b es pt valid leads).queue n q (ap is_dead over)

-- so a queue is only where a process is or leaves
pub lists_stand : (b : Boot) (pt : Point) → Run b pt → Dropped pt → ListsStand pt.view
lists_stand b pt h dropped = record {
  queue = λ m p none. elim (cases_Bool (dead_in pt.kernel p)) [
    | inl dead ↦ dropped.queue m p dead
    | inr lives ↦ h.based.lists.queue m p none (λ over. false≢true (sym lives ∙ sort_dead (pt.kernel.processes p) over))
  ];
  held = λ m p none. h.based.lists.held m p none;
}
