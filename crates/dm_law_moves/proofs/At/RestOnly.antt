-- Where a process has ended nothing comes to its queue: each group keeps it.
use Rattle.dm_law_moves.proofs.Names.{◌≡◌, ℕ, ◌+◌, Bool, true, false, List, [], ◌∷◌, refl, ap, ◌∙◌, sym, false≢true, Option, None, Some, Pid, MsgId, MessageKind, plain_kind, Label, Step, Line, Stage, Part, Routes, Spelled, spelled}
use Rattle.dm_law_moves.proofs.Names.{Point, at_record, View, Told, Known, Unknown, Here, Why, pid_eq-is, view_after, handled, receiver_of, IsNetLine, ◌++◌, PlainMessage, Boot, manager, Addresses, forwards_on, sends_on, is_kill, Sane, by_hears}
use Rattle.dm_law_moves.proofs.Names.{by_round, by_handles, by_forwards, nat_tests, arith, aim, sets, Frozen, subst, Life, OneKernel, after_step, is_away, kernel_after, label_of, ended_away, is_alive, is_server, is_some, ◌||◌, cases_Bool, inl, inr, set_all, About, Of, map, to_kernel}
use Rattle.dm_law_moves.proofs.Names.{group_of, without_id, without_front, Incoming, served_told, front_of, gone_to, Phased, KnownStands, group_keeps, Loud, keeps_by, killed_or, life_sort, step_alike, step_creates, pid_eq}
use Rattle.dm_law_always.proofs.Based.Rows.{made_server}
use Rattle.dm_law_rule.specs.View as view
use Rattle.dm_law_rule.specs.Rule as rule
use Rattle.dm_law_rule.specs.Burying as bury
use Rattle.dm_onekernel.specs.Step as kernel
use Rattle.dm_law_moves.proofs.Leading.{whatever_put, parts_lead, All, Saying}

abbrev pub is_dead : Option Life → Bool
is_dead (Some (Life.Ended y)) = true
is_dead _ = false

abbrev pub dead_in : OneKernel → Pid → Bool
dead_in s q = is_dead (s.processes q)

-- what had ended before is on no machine, and has no queue
pub record Emptied (before : Pid → Bool) (s : OneKernel) (v : View) : Type 0 where
  pub away : (n : ℕ) (q : Pid) → before q ≡ true → is_away (v.known n q) ≡ true
  pub queue : (n : ℕ) (q : Pid) → before q ≡ true → v.queue n q ≡ []
  pub dead : (q : Pid) → before q ≡ true → dead_in s q ≡ true
  pub free : (q : Pid) → before q ≡ true → is_server q ≡ false

abbrev Dies : OneKernel → OneKernel → Type 0
Dies s t = (q : Pid) → dead_in s q ≡ true → dead_in t q ≡ true

dies_label : (pt : Point) (t : OneKernel) (l : Label) → Sane pt → kernel.step pt.kernel l ≡ Some t → Dies pt.kernel t
dies_label pt t l h e q dead = grind (arith, nat_tests, ((after_step h.r h.e pt.kernel t l e h.sound).grown.lives q))

dies_by : (pt : Point) (t : OneKernel) (o : Option Label) → Sane pt → kernel_after pt.kernel o ≡ Some t → Dies pt.kernel t
dies_by pt t None h e q dead = sym (ap (λ (k : OneKernel). is_dead (k.processes q)) (let f : pt.kernel ≡ t = cc in f)) ∙ dead
dies_by pt t (Some l) h e q dead = dies_label pt t l h e q dead

-- who is alive isn't dead
alive_off : (T : Type 0) (o : Option Life) → life_sort o ≡ Some true → is_dead o ≡ true → T
alive_off T (Some (Life.Ended y)) e f = cc
alive_off T _ e f = absurd (false≢true f)

dead_life : (o : Option Life) → is_dead o ≡ true → is_some (kernel.alive o) ≡ false
dead_life (Some (Life.Ended y)) e = refl
dead_life _ e = absurd (false≢true e)

dead_off : (T : Type 0) (s : OneKernel) (p : Pid) → is_server p ≡ false → is_alive s p ≡ true → dead_in s p ≡ true → T
dead_off T s p free lives dead = absurd (false≢true (sym (ap (λ (c : Bool). c || is_some (kernel.alive (s.processes p))) free ∙ dead_life (s.processes p) dead) ∙ lives))

as_ : (before : Pid → Bool) (s t : OneKernel) (v w : View) → Dies s t → w.known ≡ v.known → w.queue ≡ v.queue → Emptied before s v → Emptied before t w
as_ before s t v w dies known queue h = record {
  away = λ n q e. ap (λ (f : ℕ → Pid → Known). is_away (f n q)) known ∙ h.away n q e;
  queue = λ n q e. ap (λ (f : ℕ → Pid → List MsgId). f n q) queue ∙ h.queue n q e;
  dead = λ q e. dies q (h.dead q e);
  free = h.free;
}

learns : (before : Pid → Bool) (s t : OneKernel) (v w : View) (p : Pid) (k : Known) → Dies s t → w.known ≡ at_record v.known v.acting p k → w.queue ≡ v.queue → (before p ≡ true → is_away k ≡ true) → Emptied before s v → Emptied before t w
learns before s t v w p k dies known queue new h = record {
  away = λ n q e. ap (λ (f : ℕ → Pid → Known). is_away (f n q)) known ∙ set_all (λ m r x. before r ≡ true → is_away x ≡ true) v.known v.acting p k new (λ m r off. h.away m r) n q e;
  queue = λ n q e. ap (λ (f : ℕ → Pid → List MsgId). f n q) queue ∙ h.queue n q e;
  dead = λ q e. dies q (h.dead q e);
  free = h.free;
}

queues : (before : Pid → Bool) (s t : OneKernel) (v w : View) (p : Pid) (xs : List MsgId) → Dies s t → w.known ≡ v.known → w.queue ≡ at_record v.queue v.acting p xs → (before p ≡ true → xs ≡ []) → Emptied before s v → Emptied before t w
queues before s t v w p xs dies known queue new h = record {
  away = λ n q e. ap (λ (f : ℕ → Pid → Known). is_away (f n q)) known ∙ h.away n q e;
  queue = λ n q e. ap (λ (f : ℕ → Pid → List MsgId). f n q) queue ∙ set_all (λ m r ys. before r ≡ true → ys ≡ []) v.queue v.acting p xs new (λ m r off. h.queue m r) n q e;
  dead = λ q e. dies q (h.dead q e);
  free = h.free;
}

same : (s : OneKernel) → Dies s s
same s q e = e

-- a machine that has a process, waits for it or sends it on has none that has ended
there_off : (T : Type 0) (before : Pid → Bool) (s : OneKernel) (v : View) (p : Pid) (k : Known) → v.known v.acting p ≡ k → is_away k ≡ false → Emptied before s v → before p ≡ true → T
there_off T before s v p k is there h e = absurd (false≢true (sym there ∙ ap is_away (sym is) ∙ h.away v.acting p e))

dropped : (before : Pid → Bool) (s t : OneKernel) (v : View) (id : MsgId) (o : Option Pid) → Dies s t → Emptied before s v → Emptied before t (view.dropped_for (handled v id) id o)
dropped before s t v id None dies h = as_ before s t v (handled v id) dies refl refl h
dropped before s t v id (Some p) dies h =
    queues before s t v (view.dropped_for (handled v id) id (Some p)) p (without_front id (v.queue v.acting p)) dies refl refl (λ e. ap (without_front id) (h.queue v.acting p e)) h

served : (before : Pid → Bool) (s t : OneKernel) (v : View) (id : MsgId) (o : Option Told) → Dies s t → Emptied before s v → Emptied before t (served_told (handled v id) o)
served before s t v id None dies h = as_ before s t v (handled v id) dies refl refl h
served before s t v id (Some u) dies h = killed_or (Emptied before t) u.kind (handled v id) u.receiver
    (λ kills. learns before s t v (view.ended (handled v id) u.receiver) u.receiver Unknown dies refl refl (λ e. refl) h)
    (λ mild. as_ before s t v (handled v id) dies refl refl h)

queued : (before : Pid → Bool) (s : OneKernel) (v : View) (id : MsgId) (o : Option Told) → ((t : Told) → o ≡ Some t → v.known v.acting t.receiver ≡ Here) → Emptied before s v → Emptied before s (view.queued_for (handled v id) id (receiver_of o))
queued before s v id None here h = as_ before s s v (handled v id) (same s) refl refl h
queued before s v id (Some t) here h =
    queues before s s v (view.queued_for (handled v id) id (Some t.receiver)) t.receiver (v.queue v.acting t.receiver ++ id ∷ []) (same s) refl refl
    (λ e. there_off (v.queue v.acting t.receiver ++ id ∷ [] ≡ []) before s v t.receiver Here (here t refl) refl h e) h

held : (before : Pid → Bool) (s : OneKernel) (v : View) (id : MsgId) (o : Option Told) → Emptied before s v → Emptied before s (view.held_for (handled v id) id (receiver_of o))
held before s v id None h = as_ before s s v (handled v id) (same s) refl refl h
held before s v id (Some t) h = as_ before s s v (view.held_for (handled v id) id (Some t.receiver)) (same s) refl refl h

-- a machine forgets a process
forgotten : (before : Pid → Bool) (s : OneKernel) (v : View) (id : MsgId) (a : About) → Emptied before s v → Emptied before s (view.forgotten (handled v id) a)
forgotten before s v id (Of p) h = learns before s s v (view.forgotten (handled v id) (Of p)) p Unknown (same s) refl refl (λ e. refl) h
forgotten before s v id _ h = as_ before s s v (handled v id) (same s) refl refl h

buried : (before : Pid → Bool) (s : OneKernel) (v : View) (id : MsgId) (o : Option Told) → Emptied before s v → Emptied before s (view.buried_for (handled v id) o)
buried before s v id None h = as_ before s s v (handled v id) (same s) refl refl h
buried before s v id (Some t) h = forgotten before s v id t.about h

loud : (before : Pid → Bool) → Loud (λ pt. Emptied before pt.kernel pt.view)
loud before = record {
  rides = record {
    put = λ pt a b i k q h. record { away = h.away; queue = h.queue; dead = h.dead; free = h.free };
    packet = λ pt a b k l h. record { away = h.away; queue = h.queue; dead = h.dead; free = h.free };
  };
  quiet = λ pt w t l e s told alike sane is h. subst (Emptied before t) (sym e) (as_ before pt.kernel t pt.view w (dies_by pt t (label_of l) sane is) s.known s.queue h);
  ran = λ pt t p k here alike sane is h. as_ before pt.kernel t pt.view (view_after pt.view (Line.Label (Label.Ran p k))) (dies_label pt t (Label.Ran p k) sane is) refl refl h;
  receive = λ pt t p id here alike sane is h.
      queues before pt.kernel t pt.view (view_after pt.view (Line.Label (Label.Receive p id))) p (without_id id (pt.view.queue pt.view.acting p)) (dies_label pt t (Label.Receive p id) sane is) refl refl (λ e. ap (without_id id) (h.queue pt.view.acting p e)) h;
  refuse = λ pt t p id c here alike sane is h. as_ before pt.kernel t pt.view (view_after pt.view (Line.Label (Label.Refuse p id c))) (dies_label pt t (Label.Refuse p id c) sane is) refl refl h;
  end = λ pt t p y rests sane is h. learns before pt.kernel t pt.view (view_after pt.view (Line.Label (Label.End p y))) p Unknown (dies_label pt t (Label.End p y) sane is) refl refl (λ e. refl) h;
  dropped = λ pt t id alike sane is h. dropped before pt.kernel t pt.view id (receiver_of (pt.view.told id)) (dies_label pt t (Label.Dropped id) sane is) h;
  served = λ pt t id serves sane is h. served before pt.kernel t pt.view id (pt.view.told id) (dies_label pt t (Label.Served id) sane is) h;
  created = λ pt t id p unborn sane is h.
      learns before pt.kernel t pt.view (view_after pt.view (Line.Label (Label.Created id p))) p Here (dies_label pt t (Label.Created id p) sane is) refl refl
      (λ e. alive_off (is_away Here ≡ true) (t.processes p) (step_creates pt.kernel t id p is).at_ (dies_label pt t (Label.Created id p) sane is p (h.dead p e))) h;
  queued = λ pt id need sane h. queued before pt.kernel pt.view id (pt.view.told id) (λ t e. (need t e).here) h;
  held = λ pt id need sane h. held before pt.kernel pt.view id (pt.view.told id) h;
  buried = λ pt id n need sane h. buried before pt.kernel pt.view id (pt.view.told id) h;
  frozen = λ pt p lives here h.
      let set = sets pt.view p pt.view.topic in
      learns before pt.kernel pt.kernel pt.view (view.after_stage pt.view p Stage.Frozen) p (Frozen (aim pt.view pt.view.topic)) (same pt.kernel) set.known set.queue (λ e. there_off (false ≡ true) before pt.kernel pt.view p Here here refl h e) h;
  accepted = λ pt p lives away h.
      learns before pt.kernel pt.kernel pt.view (view.after_stage pt.view p Stage.Accepted) p (Incoming (front_of (pt.view.inbox pt.view.acting))) (same pt.kernel) refl refl
      (λ e. dead_off (is_away (Incoming (front_of (pt.view.inbox pt.view.acting))) ≡ true) pt.kernel p (h.free p e) lives (h.dead p e)) h;
  left = λ pt p leaves h.
      learns before pt.kernel pt.kernel pt.view (view.after_stage pt.view p Stage.Left) p (gone_to (pt.view.known pt.view.acting p) (pt.view.moves p + 1)) (same pt.kernel) refl refl
      (λ e. there_off (is_away (gone_to (pt.view.known pt.view.acting p) (pt.view.moves p + 1)) ≡ true) before pt.kernel pt.view p (Frozen leaves.to) leaves.frozen refl h e) h;
  restarted = λ pt p lives off h.
      learns before pt.kernel pt.kernel pt.view (view.after_stage pt.view p Stage.Restarted) p Here (same pt.kernel) refl refl (λ e. dead_off (is_away Here ≡ true) pt.kernel p (h.free p e) lives (h.dead p e)) h;
  stays_ = λ pt p lives off h. learns before pt.kernel pt.kernel pt.view (view_after pt.view (Line.Stays p)) p Here (same pt.kernel) refl refl (λ e. dead_off (is_away Here ≡ true) pt.kernel p (h.free p e) lives (h.dead p e)) h;
  called = λ pt p n calling h.
      learns before pt.kernel pt.kernel pt.view (view_after pt.view (Line.Called p n)) p (view.goes_back (pt.view.known pt.view.acting p) (pt.view.moves p)) (same pt.kernel) refl refl
      (λ e. there_off (is_away (view.goes_back (pt.view.known pt.view.acting p) (pt.view.moves p)) ≡ true) before pt.kernel pt.view p (Incoming calling.from) calling.comes refl h e) h;
  sent_on = λ pt p n h. queues before pt.kernel pt.kernel pt.view (view_after pt.view (Line.SentOn p n)) p [] (same pt.kernel) refl refl (λ e. refl) h;
}

-- who has ended is no server, and doesn't live
pub ended_alive : (pt : Point) (p : Pid) → Phased pt → (y : Why) × (pt.kernel.processes p ≡ Some (Life.Ended y)) → is_alive pt.kernel p ≡ false
ended_alive pt p phased (y, over) =
    let process : is_server p ≡ false = made_server pt.kernel p phased.state.sound.made (ap is_some over) in
    ap (λ (o : Option Life). is_server p || is_some (kernel.alive o)) over ∙ ap (λ (c : Bool). c || false) process

-- who has ended is on no machine
ended_is : (o : Option Life) → is_dead o ≡ true → (y : Why) × (o ≡ Some (Life.Ended y))
ended_is (Some (Life.Ended y)) dead = (y, refl)
ended_is _ dead = absurd (false≢true dead)

pub dead_away : (pt : Point) (n : ℕ) (q : Pid) → Phased pt → dead_in pt.kernel q ≡ true → is_away (pt.view.known n q) ≡ true
dead_away pt n q phased dead = ended_away pt q phased (ended_is (pt.kernel.processes q) dead) n

pub emptied_group : (b : Boot) (pt : Point) (d : Step) (w : Spelled) → group_of b pt d ≡ Some w → Phased pt → KnownStands pt.kernel pt.view → ((n : ℕ) (q : Pid) → dead_in pt.kernel q ≡ true → pt.view.queue n q ≡ []) → Emptied (dead_in pt.kernel) w.point.kernel w.point.view
emptied_group b pt d w is phased known h =
    let before = dead_in pt.kernel in
    group_keeps (λ o. Emptied before o.kernel o.view) (keeps_by (λ o. Emptied before o.kernel o.view) (loud before)) b pt d w is phased known
    (record { away = λ n q e. dead_away pt n q phased e; queue = h; dead = λ q e. e; free = λ q e. (let (y, over) = ended_is (pt.kernel.processes q) e in made_server pt.kernel q phased.state.sound.made (ap is_some over)) })

-- A process ends only where a group says so.

-- no process ends by such a line
abbrev pub is_ending : Line → Bool
is_ending (Line.Label (Label.End p y)) = true
is_ending (Line.Label (Label.Served id)) = true
is_ending l = false

abbrev pub PartStays : Part → Type 0
PartStays = Saying (λ l. is_ending l ≡ false)

abbrev pub AllStay : List Part → Type 0
AllStay = All PartStays

-- a group ends nobody; serves a message that kills nobody; kills its receiver, or runs a process that ends, and just what follows an end
-- is behind
pub data Ends (o : Point) (a : ℕ) (ps : List Part) : Type 0 where
  Stay : AllStay ps → Ends o a ps
  Mild : (id : MsgId) → (msg : PlainMessage) → (rest : List Part) → ps ≡ rule.says (Label.Served id) ∷ rest → AllStay rest → o.kernel.bag id ≡ Some msg → is_kill (plain_kind msg.what) ≡ false → Ends o a ps
  Kills : (id : MsgId) → (msg : PlainMessage) → ps ≡ rule.says (Label.Served id) ∷ bury.ends_with o a msg.to → o.kernel.bag id ≡ Some msg → is_kill (plain_kind msg.what) ≡ true → o.view.known a msg.to ≡ Here → Ends o a ps
  Runs : (p : Pid) → (k : ℕ) → (y : Why) → ps ≡ rule.says (Label.Ran p k) ∷ rule.says (Label.End p y) ∷ bury.ends_with o a p → o.view.known a p ≡ Here → Ends o a ps

-- a process is served
round_ends : (b : Boot) (o : Point) (m : ℕ) (q : Option Pid) (ps : List Part) → ((p : Pid) → q ≡ Some p → o.view.known m p ≡ Here) → rule.goes_round b o m q ≡ Some ps → Ends o m ps
round_ends b o m q ps here = by_round (Ends o m) b o m q ps (Stay (refl, tt)) (λ p x is alive. record {
  runs = λ k rest f. f (λ (xs : List Part). Ends o m (rule.says (Label.Ran p k) ∷ xs)) (record {
    over = Stay (refl, tt);
    replies = λ n r. Stay (refl, (refl, tt));
    sends = λ id. Stay (refl, (refl, (tt, tt)));
    waits = Stay (refl, (refl, tt));
    outputs = λ word. Stay (refl, (refl, tt));
    ends = λ y. Runs p k y refl (here p is);
  });
  takes = λ mask id first. Stay (refl, tt);
  refuses = λ id r. Stay (refl, tt);
})

-- a message of the bag
forwards_ends : (o : Point) (a : ℕ) (c : Addresses) (id : MsgId) (k : MessageKind) (sender : Pid) (to : ℕ) → Ends o a (forwards_on c id k sender to)
forwards_ends o a c id k sender to = by_forwards (Ends o a) c id k sender to (Stay (refl, (tt, tt))) (Stay (refl, (tt, (tt, tt))))

routes_stay : (sent : Option PlainMessage) → AllStay (rule.routes sent)
routes_stay None = tt
routes_stay (Some m) = (tt, tt)

handles_ends : (b : Boot) (o : Point) (m : ℕ) (id : MsgId) (msg : PlainMessage) (ps : List Part) → o.kernel.bag id ≡ Some msg → rule.handles b o m id msg ≡ Some ps → Ends o m ps
handles_ends b o m id msg ps there = by_handles (Ends o m) b o m id msg ps (record {
  created = λ fixed. Stay (refl, (tt, tt));
  no_space = λ fixed slots blocks. Stay (refl, (tt, tt));
  took = λ here sent. Stay (refl, routes_stay sent);
  queued = λ here user. Stay (refl, tt);
  served = λ here mild. Mild id msg [] refl tt there mild;
  answers = λ here mild i. Mild id msg (Routes i ∷ []) refl (tt, tt) there mild;
  kills = λ here kills. Kills id msg refl there kills here.known;
  moved = λ here what. Stay (refl, (refl, (tt, tt)));
  sets_off = λ to here what apart. Stay (refl, (refl, (refl, (tt, tt))));
  gone = λ ended. Stay (refl, (tt, tt));
  dropped = λ ended. Stay (refl, tt);
  leaving = λ to at_. Stay (refl, tt);
  coming = λ from at_. Stay (refl, tt);
  forwarded = λ to moves at_. forwards_ends o m o.addresses id (plain_kind msg.what) msg.sender to;
})

-- a kernel's own message ends no process
pub sends_stay : (to : ℕ) (ids : List MsgId) (ps : List Part) → AllStay ps → AllStay (sends_on to ids ++ ps)
sends_stay to [] ps h = h
sends_stay to (i ∷ is) ps h = (tt, sends_stay to is ps h)

buries_stay : (ms : List ℕ) → AllStay (map (to_kernel MessageKind.Bury) ms)
buries_stay [] = tt
buries_stay (m ∷ ms) = (tt, buries_stay ms)

hears_ends : (b : Boot) (o : Point) (m : ℕ) (id : MsgId) (q : Option Told) (ps : List Part) → rule.hears b o m id q ≡ Some ps → AllStay ps
hears_ends b o m id q ps = by_hears AllStay b o m id q ps (λ t is. record {
  stale = λ p about late. (refl, tt);
  buried = λ p about kind. (refl, buries_stay (bury.preds_of o m p));
  told = λ p x about alive due. grind (arith, nat_tests, sends_stay);
  updated = λ kind. (refl, tt);
  updated_none = λ kind at_. (refl, tt);
  no_move = λ at_. (refl, tt);
  leaving = λ to at_. (refl, tt);
  coming = λ from at_. (refl, tt);
  forwarded = λ to moves at_. by_forwards AllStay o.addresses id t.kind manager to (refl, (tt, tt)) (refl, (tt, (tt, tt)));
  stays_here = λ at_. (refl, tt);
  frozen = λ to at_. (refl, (refl, (tt, tt)));
})

-- a turn
pub turns_ends : (b : Boot) (o : Point) (m : ℕ) (is : List MsgId) (ps : List Part) → ((p : Pid) → rule.first_runnable o.kernel (o.view.queue m) (o.view.ring m) ≡ Some p → o.view.known m p ≡ Here) → rule.turns b o m is ≡ Some ps → Ends o m ps
turns_ends b o m [] ps here e = round_ends b o m (rule.first_runnable o.kernel (o.view.queue m) (o.view.ring m)) ps here e
turns_ends b o m (i ∷ is) ps here e = by_front (o.kernel.bag i) refl e
  where
    by_front : (q : Option PlainMessage) → o.kernel.bag i ≡ q → rule.comes_to b o m i q ≡ Some ps → Ends o m ps
    by_front None none e = Stay (hears_ends b o m i (o.view.told i) ps e)
    by_front (Some msg) there e = handles_ends b o m i msg ps there e

-- who has ended had ended before
pub record Only (before : Pid → Bool) (s : OneKernel) : Type 0 where
  pub only : (q : Pid) → dead_in s q ≡ true → before q ≡ true

pub dead_alike : (a b : Option Life) → life_sort a ≡ life_sort b → is_dead a ≡ true → is_dead b ≡ true
dead_alike (Some (Life.Ended y)) (Some (Life.Ended z)) e dead = refl
dead_alike (Some (Life.Ended y)) (Some (Life.Alive x)) e dead = cc
dead_alike (Some (Life.Ended y)) None e dead = cc
dead_alike _ b e dead = absurd (false≢true dead)

-- a step that ends nobody
pub label_only : (before : Pid → Bool) (s t : OneKernel) (l : Label) → is_ending (Line.Label l) ≡ false → kernel.step s l ≡ Some t → Only before s → Only before t
label_only before s t (Label.End p y) stays is h = absurd (false≢true (sym stays))
label_only before s t (Label.Served id) stays is h = absurd (false≢true (sym stays))
label_only before s t (Label.Created id p) stays is h =
    let set = step_creates s t id p is in
    record {
      only = λ q dead. elim (cases_Bool (pid_eq p q)) [
        | inl same_ ↦ alive_off (before q ≡ true) (t.processes p) set.at_ (ap (λ (r : Pid). is_dead (t.processes r)) (pid_eq-is p q same_) ∙ dead)
        | inr off ↦ h.only q (dead_alike (t.processes q) (s.processes q) (set.off q off) dead)
      ];
    }
label_only before s t l stays is h = record { only = λ q dead. h.only q (dead_alike (t.processes q) (s.processes q) (step_alike s t l refl is q) dead) }

pub line_only : (before : Pid → Bool) (s t : OneKernel) (l : Line) → is_ending l ≡ false → kernel_after s (label_of l) ≡ Some t → Only before s → Only before t
line_only before s t (Line.Label l) stays is h = label_only before s t l stays is h
line_only before s t l stays is h = subst (Only before) (let f : s ≡ t = cc in f) h

pub parts_only : (before : Pid → Bool) (ps : List Part) (pt : Point) (w : Spelled) → AllStay ps → spelled pt ps ≡ Some w → Only before pt.kernel → Only before w.point.kernel
parts_only before = parts_lead (λ q. Only before q.kernel) (λ q a b k l h. h) PartStays
    (λ pt p stays h. whatever_put (λ q. Only before q.kernel) pt p (λ l e s is. line_only before pt.kernel s l (subst PartStays e stays) is h) (λ b i k q. h) h)

-- all directives but turns are so
pub net_stays : (l : Line) → IsNetLine l → is_ending l ≡ false
net_stays l h = grind (arith, nat_tests)
