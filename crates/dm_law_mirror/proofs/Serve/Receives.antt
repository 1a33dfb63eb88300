-- A waiting process is served: it receives the first message that it waits for, or is refused it.
use Rattle.dm_law_mirror.proofs.Names.{false≢true, ◌≡◌, ℕ, ◌+◌, ◌≤◌, Bool, true, false, List, [], ◌∷◌, map, length, refl, ap, ◌∙◌, sym, subst, inl, inr, arith, if◌then◌else◌, Option, None, Some, cases_Bool, nat_tests, ArrayVec, Link, Pid}
use Rattle.dm_law_mirror.proofs.Names.{pid_eq, plain_link, Message, MsgId, What, Record, Label, Line, id_eq, PlainMessage, plain_message, IsLawfulProcess, IsLawfulStatus, first_on, without_first_on, Process, Status, Boot, Reply, reply_code}
use Rattle.dm_law_mirror.proofs.Names.{bind, when, Life, Alive, OneKernel, plain_process, plain_status, PlainProcess, receive_refusals, first_failed, length-written, Completion, plain_completed, status_plainly, id_eq-is, pid_eq-same, Point}
use Rattle.dm_law_mirror.proofs.Names.{moved, moved_back, without_id, Spot, Queue, times, standing, StandsRight, View, serving, once_at, set_at, Placed, Ends, completed_matches, with_queue, KernelState, turned, with_here, AreMessages, not}
use Rattle.dm_law_mirror.proofs.Names.{is_some, option_map, pid_of, status_is_runnable, pid_eq-is, Phase, Rests, knows, stands_right, letter_of, InPhases, rests_here, rings, both, Run, queue_drops, Mirrors, mirrors_view, IsLawfulState}
use Rattle.dm_law_mirror.proofs.Names.{of_known, resident_at, AllOwnStand, Resident, MadeStands, KernelStands, Part, here_free, at_hand_of, IsValid, none_some}
use Rattle.dm_syscall.specs.Completing.{IsAwaited}
use Rattle.dm_onekernel.specs.Receiving as receiving
use Rattle.dm_onekernel.specs.Service as service
use Rattle.dm_onekernel.specs.Step as kernel
use Rattle.dm_syscall.specs.Completing as completing
use Rattle.dm_law_rule.specs.Rule as rule
use Rattle.dm_law_places.specs.PlacedStep as placed
use Rattle.dm_kernel.specs.State as machine
use Rattle.dm_kernel.specs.Serve as serve
use Rattle.dm_law_rule.specs.View as view
use Rattle.dm_kernel.specs.Turn as turn
use Rattle.dm_law_mirror.proofs.Kernel.Sets.{Leaves, leaves_resident, view_leaves_on, kernel_leaves_on, placed_leaves_on, is_queue_of, off_if, on_if, messages_on, eq_self, IsAway, elsewhere_of, queue_not_elsewhere, not_is, view_serving, view_queue}
use Rattle.dm_law_mirror.proofs.Kernel.Sets.{kernel_sets, kernel_out, placed_sets, placed_out, NotOwn, not_own_some, machine_on, record_on, label_mirrors, after_label, view_same, kernel_same, placed_same}
use Rattle.dm_law_mirror.proofs.Serve.Runs.{Found, found, here_of, in_ring, first_runs, first_same}
use Rattle.dm_law_mirror.proofs.Serving.{Served, Acts, acts_as, moved_round, goes_on_acts, is_for, queue_alone}
use Rattle.dm_law_mirror.proofs.Turning.{NoneEnds, Elsewhere, Row, Sends, begun, is_moving}
use Rattle.dm_law_mirror.proofs.Serve.Executes.{executes_acts}
use Rattle.dm_law_mirror.proofs.Residents.{same_system}
use Rattle.dm_law_mirror.proofs.Buries.{absent_from, preds_are, untold_from}
use Rattle.dm_law_rule.specs.Burying as burying
use Rattle.dm_law_mirror.proofs.Follow.Updates.{rests_away as away_of}

-- a message on the mask is a user message
record UserIs (w : What) : Type 0 where
  code : ℕ
  channel : ℕ
  body : ArrayVec ℕ
  links : ArrayVec Link
  is : w ≡ What.User code channel body links

-- a message that stood once has left the list
gone_from : (i : MsgId) (ids : List MsgId) → times i ids ≤ 1 → times i (without_id i ids) ≡ 0
gone_from i [] few = refl
gone_from i (j ∷ js) few = grind (arith, nat_tests, gone_from i js)

-- the message that it waits for, in the kernel without machines
record Comes (s : OneKernel) (l : Placed) (p : Pid) (ids : List MsgId) (w : Message) : Type 0 where
  u : PlainMessage
  there : s.bag w.id ≡ Some u
  says : plain_message w ≡ Some u
  to : u.to ≡ p

comes_of : (b : Boot) (m : ℕ) (pt : Point) (l : Placed) (k : KernelState) (p : Pid) (x : Process) (mask : ℕ) (w : Message) → Served b m pt l k p x → Found l mask (pt.view.queue m p) x.queue w → Comes pt.kernel l p (pt.view.queue m p) w
comes_of b m pt l k p x mask w s f =
    let g = is_for pt.kernel p (pt.view.queue m p) w.id s.drops f.stands in
    let says : plain_message w ≡ Some g.x = sym (ap (λ (o : Option Message). bind o plain_message) f.there) ∙ s.mirrors.plain.bag w.id ∙ g.there in
    record { u = g.x; there = g.there; says = says; to = g.to }

-- how the receive ends: by the machine, by the kernel without machines, and by the kernel with places
record Completes (m : ℕ) (pt : Point) (l : Placed) (p : Pid) (x : Process) (w : Message) (d : Completion) : Type 0 where
  machine_ : completing.completion x 0 x.status (Some w) ≡ Some d
  parts : rule.reception_parts pt.kernel p (plain_process x) (Some w.id) ≡ Some (rule.completion_parts p w.id (plain_completed d.completed d.process))
  completing_ : kernel.completing pt.kernel p w.id ≡ Some (plain_completed d.completed d.process)
  ends : Ends l p w.id d

completes_of : (b : Boot) (m : ℕ) (pt : Point) (l : Placed) (k : KernelState) (p : Pid) (x : Process) (mask base size : ℕ) (w : Message) (d : Completion) (s : Served b m pt l k p x) → x.status ≡ Status.Waiting mask base size → Found l mask (pt.view.queue m p) x.queue w
    → completing.completion x 0 x.status (Some w) ≡ Some d → Completes m pt l p x w d
completes_of b m pt l k p x mask base size w d s waits f e =
    let c = comes_of b m pt l k p x mask w s f in
    let pid : x.pid ≡ p = (s.mirrors.places.process p (with_queue x s.at.queue) s.at.there).pid in
    let on : IsAwaited x.status (Some w) = subst (λ (z : Status). IsAwaited z (Some w)) (sym waits) f.on in
    let plain : receiving.completes_status x.pid (plain_process x) c.u (plain_status x.status) ≡ Some (plain_completed d.completed d.process) = status_plainly x 0 x.status (Some w) d c.u on e c.says (c.to ∙ sym pid) in
    let with_ : receiving.completes_with p (plain_process x) c.u ≡ Some (plain_completed d.completed d.process) = grind (arith, nat_tests) in
    record {
      machine_ = e;
      parts = ap (λ (o : Option PlainMessage). bind o (λ (u : PlainMessage). bind (receiving.completes_with p (plain_process x) u) (λ (v : receiving.Completed). Some (rule.completion_parts p w.id v)))) c.there
          ∙ ap (λ (o : Option receiving.Completed). bind o (λ (v : receiving.Completed). Some (rule.completion_parts p w.id v))) with_;
      completing_ = ap (λ (o : Option PlainProcess). bind o (λ (v : PlainProcess). bind (pt.kernel.bag w.id) (receiving.completes_with p v))) (at_hand_of pt.kernel p (plain_process x) s.at.free s.at.alive)
          ∙ ap (λ (o : Option PlainMessage). bind o (receiving.completes_with p (plain_process x))) c.there ∙ with_;
      ends = completed_matches l p w.id x s.at.queue 0 w d s.at.there f.there e;
    }

-- where the ring of the machine is behind the label
ring_on : (m : ℕ) (p : Pid) (v : View) → v.acting ≡ m → (serving v p).ring m ≡ moved_back p (v.ring m)
ring_on m p v at = machine_on v.ring v.acting m (moved_back p (v.ring v.acting)) at ∙ ap (λ (a : ℕ). moved_back p (v.ring a)) at

-- what the process waits for isn't a kernel's own, and stands once
not_own_some_there : (o : Option Message) (w : Message) (u : PlainMessage) → o ≡ Some w → plain_message w ≡ Some u → NotOwn o
not_own_some_there o w u there says x e none = not_own_some w u says x (sym there ∙ e) none

right_one : (i : MsgId) (o : Option PlainMessage) (u : PlainMessage) (f : Spot → ℕ) (z : Spot) → o ≡ Some u → 1 ≤ f z → StandsRight i o f → f z ≡ 1
right_one i o u f z e least h = grind (arith, nat_tests, once_at)

-- the message is received, unless it is refused
receive_row : (b : Boot) (m : ℕ) (pt : Point) (l : Placed) (k : KernelState) (p : Pid) (x : Process) (mask base size : ℕ) (w : Message) (code channel : ℕ) (body : List ℕ) (links : List Link) (o : Option Reply) → Served b m pt l k p x → IsLawfulProcess x → x.status ≡ Status.Waiting mask base size
    → Found l mask (pt.view.queue m p) x.queue w → first_failed (receive_refusals (plain_process x) size body (map plain_link links)) ≡ o
    → completing.completion x 0 x.status (Some w) ≡ Some (completing.completes_unless o x (completing.receives x 0 w.id base code channel body links)) → Acts b m pt l k p (serve.receives (moved_round k p) p x mask (Some w)) (rule.reception_parts pt.kernel p (plain_process x) (Some w.id))
receive_row b m pt l k p x mask base size w code channel body links None s lawful waits f fits e =
    let t = is_queue_of m p in
    let id = w.id in
    let come = comes_of b m pt l k p x mask w s f in
    let d = completing.receives x 0 id base code channel body links in
    let c = completes_of b m pt l k p x mask base size w d s waits f e in
    let z : Process = record d.process { queue = without_first_on mask x.queue } in
    let ids = pt.view.queue m p in
    let out = service.without_message pt.kernel id in
    let u = kernel.goes_on out p (plain_process z) in
    let step : kernel.step pt.kernel (Label.Receive p id) ≡ Some u = ap (λ (v : Option receiving.Completed). bind v (kernel.receives pt.kernel p id)) c.completing_ in
    let next = moved pt (Line.Label (Label.Receive p id)) u in
    let lm = placed.without_message l id in
    let on = placed.with_process lm p (Some (with_queue z c.ends.queue)) in
    let leaves : Leaves m t p pt l next on = record {
      view = view_leaves_on m t p pt.view (serving pt.view p) next.view (view_serving m t p pt.view s.acting) (view_queue m t p (serving pt.view p) (without_id id (pt.view.queue pt.view.acting p)) s.acting (λ n q off. off));
      kernel = kernel_leaves_on p pt.kernel out u (kernel_out p pt.kernel id) (kernel_sets p out (Alive (plain_process z)));
      placed_ = placed_leaves_on t p pt.view l lm on (placed_out t p pt.view l id (not_own_some_there (l.bag id) w come.u f.there come.says) (queue_alone m p pt.kernel pt.view s.kept id f.stands)) (placed_sets t p pt.view lm (Some (with_queue z c.ends.queue)));
    } in
    let queue : next.view.queue m p ≡ without_id id ids = record_on pt.view.queue pt.view.acting m p (without_id id (pt.view.queue pt.view.acting p)) s.acting ∙ ap (λ (a : ℕ). without_id id (pt.view.queue a p)) s.acting in
    let none : times id (without_id id ids) ≡ 0 = gone_from id ids (let one : times id ids ≡ 1 = right_one id (pt.kernel.bag id) come.u (standing pt.view id) (Queue m p) come.there f.stands (s.kept id) in omega (arith, one)) in
    let messages : AreMessages on.bag (next.view.queue m p) z.queue =
    subst (λ (js : List MsgId). AreMessages on.bag js z.queue) (sym queue)
    (messages_on l.bag on.bag (without_id id ids) z.queue (λ i least. off_if (id_eq id i) None (l.bag i) (apart i (without_id id ids) none least)) f.rest) in
    let reach : base + size ≤ length x.memory = subst (IsLawfulStatus (length x.memory)) waits lawful.status in
    let short : length body ≤ size = grind (arith, nat_tests) in
    acts_as b m pt l k p (serve.receives (moved_round k p) p x mask (Some w)) (turned (with_here (moved_round k p) p z) (machine.says (Label.Receive p id) ∷ [])) (rule.reception_parts pt.kernel p (plain_process x) (Some id)) (Some (rule.says (Label.Receive p id) ∷ []))
    (ap (serve.received_by (moved_round k p) p x mask w) e) c.parts
    (goes_on_acts b m pt next l on k p x z c.ends.queue (Line.Label (Label.Receive p id) ∷ []) None s (after_label pt (Label.Receive p id) u [] next step refl)
    (label_mirrors pt l on m (Label.Receive p id) u s.mirrors s.acting tt step (ap (λ (v : Option Completion). bind v (λ (q : Completion). Some (placed.with_process lm p (Some q.process)))) c.ends.is))
    leaves refl refl (ring_on m p pt.view s.acting)
    (set_at out p (Alive (plain_process z))) (on_if (pid_eq p p) (Some (with_queue z c.ends.queue)) (lm.processes p) (pid_eq-same p)) messages (length-written x.memory base body (omega (arith, reach, short))) tt refl)
  where
    apart : (i : MsgId) (js : List MsgId) → times w.id js ≡ 0 → 1 ≤ times i js → id_eq w.id i ≡ false
    apart i js none least = elim (cases_Bool (id_eq w.id i)) [
      | inl same ↦ absurd (let g : times w.id js ≡ times i js = ap (λ (v : MsgId). times v js) (id_eq-is w.id i same) in omega (arith, none, least, g))
      | inr away ↦ away
    ]
receive_row b m pt l k p x mask base size w code channel body links (Some reply) s lawful waits f fits e =
    let t = is_queue_of m p in
    let id = w.id in
    let d = completing.refusal reply x in
    let c = completes_of b m pt l k p x mask base size w d s waits f e in
    let z = d.process in
    let u = kernel.goes_on pt.kernel p (plain_process z) in
    let step : kernel.step pt.kernel (Label.Refuse p id reply) ≡ Some u = ap (λ (v : Option receiving.Completed). bind v (kernel.refuses pt.kernel p reply)) c.completing_ ∙ ap (λ (q : Bool). when q u) (eq_self (reply_code reply)) in
    let next = moved pt (Line.Label (Label.Refuse p id reply)) u in
    let on = placed.with_process l p (Some (with_queue z c.ends.queue)) in
    let leaves : Leaves m t p pt l next on = record { view = view_serving m t p pt.view s.acting; kernel = kernel_sets p pt.kernel (Alive (plain_process z)); placed_ = placed_sets t p pt.view l (Some (with_queue z c.ends.queue)) } in
    acts_as b m pt l k p (serve.receives (moved_round k p) p x mask (Some w)) (turned (with_here (moved_round k p) p z) (machine.says (Label.Refuse p id reply) ∷ [])) (rule.reception_parts pt.kernel p (plain_process x) (Some id)) (Some (rule.says (Label.Refuse p id reply) ∷ []))
    (ap (serve.received_by (moved_round k p) p x mask w) e) c.parts
    (goes_on_acts b m pt next l on k p x z c.ends.queue (Line.Label (Label.Refuse p id reply) ∷ []) None s (after_label pt (Label.Refuse p id reply) u [] next step refl)
    (label_mirrors pt l on m (Label.Refuse p id reply) u s.mirrors s.acting tt step (ap (λ (v : Option Completion). bind v (λ (q : Completion). Some (placed.with_process l p (Some q.process)))) c.ends.is))
    leaves refl refl (ring_on m p pt.view s.acting)
    (set_at pt.kernel p (Alive (plain_process z))) (on_if (pid_eq p p) (Some (with_queue z c.ends.queue)) (l.processes p) (pid_eq-same p)) s.at.messages refl tt refl)

pub receives_acts : (b : Boot) (m : ℕ) (pt : Point) (l : Placed) (k : KernelState) (p : Pid) (x : Process) (mask base size : ℕ) (w : Message) → Served b m pt l k p x → IsLawfulProcess x → x.status ≡ Status.Waiting mask base size → first_on mask x.queue ≡ Some w
    → Acts b m pt l k p (serve.receives (moved_round k p) p x mask (Some w)) (rule.reception_parts pt.kernel p (plain_process x) (Some w.id))
receives_acts b m pt l k p x mask base size w s lawful waits first =
    let f = found l mask (pt.view.queue m p) x.queue w (λ i n there. (s.mirrors.places.message i n there).id) s.at.messages first in
    let v : UserIs w.what = grind (arith, nat_tests, f.on) in
    let o = first_failed (receive_refusals (plain_process x) size v.body.items (map plain_link v.links.items)) in
    receive_row b m pt l k p x mask base size w v.code v.channel v.body.items v.links.items o s lawful waits f refl
    (ap (λ (st : Status). completing.completion x 0 st (Some w)) waits ∙ ap (completing.completes x 0 w.id base size) v.is)

-- A turn with an empty inbox: the machine idles, or serves the first process of its ring that can be served.

-- behind the head of the turn
pub begun_stands : (b : Boot) (pt : Point) (l : Placed) (m : ℕ) (k : KernelState) → KernelStands b pt l m k → KernelStands b (begun pt m) l m k
begun_stands b pt l m k h = search (h.known, h.room)

pub begun_mirrors : (pt : Point) (l : Placed) (m : ℕ) → Mirrors pt.kernel pt.view pt.addresses l → Mirrors (begun pt m).kernel (begun pt m).view (begun pt m).addresses l
begun_mirrors pt l m h = mirrors_view pt.kernel pt.view (begun pt m).view pt.addresses l refl h

-- the process that the machine serves
record Runnable (records : Pid → Option machine.KernelKnown) (ps : List Pid) (p : Pid) : Type 0 where
  stands : 1 ≤ rings p ps
  goes : turn.known_is_runnable (records p) ≡ true

first_if : (records : Pid → Option machine.KernelKnown) (q : Pid) (qs : List Pid) (p : Pid) (c : Bool) → turn.known_is_runnable (records q) ≡ c → (if c then Some q else turn.first_runnable records qs) ≡ Some p → (turn.first_runnable records qs ≡ Some p → Runnable records qs p)
    → Runnable records (q ∷ qs) p
first_if records q qs p true e f more =
    let g : rings q (q ∷ qs) ≡ 1 + rings q qs = ap (λ (c : Bool). (if c then 1 else 0) + rings q qs) (pid_eq-same q) in
    subst (Runnable records (q ∷ qs)) (cc) (record { stands = omega (arith, g); goes = e })
first_if records q qs p false e f more =
    let h = more f in
    record { stands = (let least = h.stands in let all : rings p qs ≤ rings p (q ∷ qs) = omega arith in omega (arith, least, all)); goes = h.goes }

first_is : (records : Pid → Option machine.KernelKnown) (ps : List Pid) (p : Pid) → turn.first_runnable records ps ≡ Some p → Runnable records ps p
first_is records [] p e = none_some p e
first_is records (q ∷ qs) p e = first_if records q qs p (turn.known_is_runnable (records q)) refl e (first_is records qs p)

pub away_elsewhere : (v : View) (m : ℕ) (p : Pid) → InPhases v → v.known m p ≡ view.Here → IsAway v m p
away_elsewhere v m p h here n apart =
    let known = (h.each p).known in
    let is : h.of p ≡ Rests m = rests_here (h.of p) m (sym (ap (knows (h.of p) m) here) ∙ known m) in
    away_of m n (v.known n p) apart (sym (ap (λ (x : Phase). knows x n (v.known n p)) is) ∙ known n)

-- the process p is here, and can be served
record Chosen (b : Boot) (m : ℕ) (pt : Point) (l : Placed) (k : KernelState) (p : Pid) : Type 0 where
  x : Process
  served : Served b m (begun pt m) l k p x
  goes : status_is_runnable x.status x.queue ≡ true

-- all that a turn that serves a process can count on
pub record Ready (b : Boot) (m : ℕ) (pt : Point) (l : Placed) (k : KernelState) : Type 0 where
  pub run : Run b pt
  pub made : MadeStands pt.kernel
  pub mirrors : Mirrors pt.kernel pt.view pt.addresses l
  pub own : AllOwnStand pt.view l
  pub stands : KernelStands b pt l m k
  pub lawful : IsLawfulState k
  pub valid : IsValid b

chosen : (b : Boot) (m : ℕ) (pt : Point) (l : Placed) (k : KernelState) (p : Pid) → Ready b m pt l k → turn.first_runnable k.records k.ring ≡ Some p → Chosen b m pt l k p
chosen b m pt l k p h first =
    let f = first_is k.records k.ring p first in
    let r = in_ring pt m p h.run.based.known (subst (λ (ps : List Pid). 1 ≤ rings p ps) h.stands.ring f.stands) in
    let at = here_of b pt l m k p r.z h.stands h.mirrors.plain r.here r.server r.alive in
    let two = both (not at.x.stopped) (status_is_runnable at.x.status at.x.queue) (sym (ap turn.known_is_runnable at.record_is) ∙ f.goes) in
    let state = h.run.based.phased.state in
    record {
      x = at.x;
      served = record {
        at = search (away_elsewhere pt.view m p h.run.based.phased.phases r.here, here_free pt.kernel pt.view m p h.run.based.noted r.here, r.alive ∙ ap (λ (z : PlainProcess). Some (Alive z)) at.plain);
        acting = refl;
        mirrors = begun_mirrors pt l m h.mirrors;
        stands = begun_stands b pt l m k h.stands;
        made = h.made;
        going = not_is at.x.stopped two.0;
        kept = λ i. stands_right pt i state (pt.kernel.bag i) refl;
        told = λ i w there. state.stands.told i w.to (letter_of state.r state.e state.own pt.kernel i w there state.sound);
        drops = queue_drops b m pt p h.run.based;
        r = state.r;
        e = state.e;
        sound = state.sound;
        own = λ i x there none. (let o = h.own i x there none in record { told = o.told; mine = o.mine; sender = o.sender });
        untold = λ n le. untold_from b pt m n h.run le;
        absent = λ n le. absent_from b pt l m n h.run h.mirrors h.own le;
        preds = preds_are b pt l m k p h.valid h.run.based.machines h.stands;
      };
      goes = two.1;
    }

-- it is ready, or waits for a message that is queued
waits_acts : (b : Boot) (m : ℕ) (pt : Point) (l : Placed) (k : KernelState) (p : Pid) (x : Process) (mask base size : ℕ) (o : Option Message) → Served b m pt l k p x → IsLawfulProcess x → x.status ≡ Status.Waiting mask base size → first_on mask x.queue ≡ o → is_some o ≡ true
    → Acts b m pt l k p (serve.receives (moved_round k p) p x mask (first_on mask x.queue)) (rule.reception_parts pt.kernel p (plain_process x) (rule.first_awaited pt.kernel mask (pt.view.queue m p)))
waits_acts b m pt l k p x mask base size None s lawful waits first some = cc
waits_acts b m pt l k p x mask base size (Some w) s lawful waits first some =
    acts_as b m pt l k p (serve.receives (moved_round k p) p x mask (first_on mask x.queue)) (serve.receives (moved_round k p) p x mask (Some w)) (rule.reception_parts pt.kernel p (plain_process x) (rule.first_awaited pt.kernel mask (pt.view.queue m p)))
    (rule.reception_parts pt.kernel p (plain_process x) (Some w.id)) (ap (serve.receives (moved_round k p) p x mask) first)
    (ap (rule.reception_parts pt.kernel p (plain_process x)) (first_same pt.kernel l mask (pt.view.queue m p) x.queue s.mirrors.plain (λ i n there. (s.mirrors.places.message i n there).id) s.at.messages ∙ ap (λ (o : Option Message). option_map (λ (n : Message). n.id) o) first))
    (receives_acts b m pt l k p x mask base size w s lawful waits first)

status_acts : (b : Boot) (m : ℕ) (pt : Point) (l : Placed) (k : KernelState) (p : Pid) (x : Process) (st : Status) → Served b m pt l k p x → IsLawfulProcess x → x.status ≡ st → status_is_runnable st x.queue ≡ true
    → Acts b m pt l k p (serve.serves_status b.quantum (moved_round k p) p x st) (rule.serves_status b.quantum pt.kernel p (pt.view.queue m p) (burying.ends_with pt m p) (plain_process x) (plain_status st))
status_acts b m pt l k p x Status.Ready s lawful is goes = executes_acts b m pt l k p x b.quantum s is
status_acts b m pt l k p x (Status.Waiting mask base size) s lawful is goes = waits_acts b m pt l k p x mask base size (first_on mask x.queue) s lawful is refl goes
status_acts b m pt l k p x (Status.Moving dir owner base own left pending) s lawful is goes = cc

serves_acts : (b : Boot) (m : ℕ) (pt : Point) (l : Placed) (k : KernelState) (p : Pid) → IsLawfulState k → Chosen b m pt l k p → Acts b m (begun pt m) l k p (turn.goes_round b k (Some p)) (rule.goes_round b pt m (Some p))
serves_acts b m pt l k p lawful c =
    let x = c.x in
    let s = c.served in
    acts_as b m (begun pt m) l k p (turn.goes_round b k (Some p)) (serve.serves_status b.quantum (moved_round k p) p x x.status) (rule.goes_round b pt m (Some p)) (rule.serves_status b.quantum pt.kernel p (pt.view.queue m p) (burying.ends_with pt m p) (plain_process x) (plain_status x.status))
    (ap (serve.serves b.quantum (moved_round k p) p) s.at.record_is) (ap (λ (o : Option Life). bind (kernel.alive o) (λ (z : PlainProcess). rule.serves_status b.quantum pt.kernel p (pt.view.queue m p) (burying.ends_with pt m p) z z.status)) s.at.alive)
    (status_acts b m (begun pt m) l k p x x.status s (of_known k p (Some (Record.Here (Resident.Process x))) lawful s.at.record_is) refl c.goes)

-- what a served process gives is a row, and so is a turn in which the machine idles
pub record Round (b : Boot) (m : ℕ) (pt : Point) (l : Placed) (k : KernelState) (o : Option Pid) : Type 0 where
  pub p : Pid
  pub acts : Acts b m (begun pt m) l k p (turn.goes_round b k o) (rule.goes_round b pt m o)
  pub elsewhere : Elsewhere m (begun pt m) l acts.next acts.placed
  pub moving : (q : Pid) → is_moving (pt.view.known m q) ≡ true → (resident_at acts.placed q ≡ resident_at l q) × (acts.state.records q ≡ k.records q) × (acts.placed.notes q ≡ l.notes q)

abbrev idle_acts : (b : Boot) (m : ℕ) (pt : Point) (l : Placed) (k : KernelState) (p : Pid) → Mirrors pt.kernel pt.view pt.addresses l → KernelStands b pt l m k → Acts b m (begun pt m) l k p (turn.goes_round b k None) (rule.goes_round b pt m None)
idle_acts b m pt l k p mirrors stands = record {
  state = k;
  says = Line.Idle m ∷ [];
  route = Sends None;
  turn = ap (λ (n : ℕ). turned k (Part.Says (Line.Idle n) ∷ [])) stands.here;
  outcome = refl;
  next = begun pt m;
  after = refl;
  placed = l;
  mirrors = begun_mirrors pt l m mirrors;
  kernel = begun_stands b pt l m k stands;
  leaves = record { view = view_same m (is_queue_of m p) p (begun pt m).view; kernel = kernel_same p pt.kernel; placed_ = placed_same (is_queue_of m p) p (begun pt m).view l };
  sent = tt;
  still = refl;
  over = NoneEnds refl (λ q. refl);
  count = refl;
  records = λ q off. refl;
}

-- a process that is here doesn't move
here_apart : (v : View) (m : ℕ) (p q : Pid) → v.known m p ≡ view.Here → is_moving (v.known m q) ≡ true → pid_eq p q ≡ false
here_apart v m p q here is = elim (cases_Bool (pid_eq p q)) [
  | inl same ↦ absurd (false≢true (sym (ap is_moving here) ∙ ap (λ (r : Pid). is_moving (v.known m r)) (pid_eq-is p q same) ∙ is))
  | inr off ↦ off
]

round_of : (b : Boot) (m : ℕ) (pt : Point) (l : Placed) (k : KernelState) (o : Option Pid) → turn.first_runnable k.records k.ring ≡ o → Ready b m pt l k → Round b m pt l k o
round_of b m pt l k None first h = record {
  p = pid_of m 0;
  acts = idle_acts b m pt l k (pid_of m 0) h.mirrors h.stands;
  elsewhere = (let system = same_system l in search);
  moving = λ q is. (refl, refl, refl);
}
round_of b m pt l k (Some p) first h =
    let c = chosen b m pt l k p h first in
    let s = c.served in
    let a = serves_acts b m pt l k p h.lawful c in
    record {
      p = p;
      acts = a;
      elsewhere = elsewhere_of m (is_queue_of m p) p (begun pt m) a.next l a.placed s.at.away refl (queue_not_elsewhere m p) a.leaves;
      moving = λ q is. (let off = here_apart pt.view m p q s.at.known is in (leaves_resident (is_queue_of m p) p (begun pt m).view l a.placed a.leaves.placed_ q off, a.records q off, a.leaves.placed_.notes q));
    }

no_messages : (bag : MsgId → Option Message) (ms : List Message) → AreMessages bag [] ms → ms ≡ []
no_messages bag [] e = refl
no_messages bag (w ∷ ws) e = absurd (let f : [] ≡ map Some (w ∷ ws) = e in cc)

-- with an empty inbox
pub serve_row : (b : Boot) (m : ℕ) (pt : Point) (l : Placed) (k : KernelState) → Ready b m pt l k → pt.view.inbox m ≡ [] → Row b m pt l k
serve_row b m pt l k h box =
    let first = first_runs b pt l m k h.stands h.mirrors.plain (λ i n there. (h.mirrors.places.message i n there).id) h.run.based.known in
    let o = turn.first_runnable k.records k.ring in
    let r = round_of b m pt l k o refl h in
    let a = r.acts in
    let empty : k.inbox ≡ [] = no_messages l.bag k.inbox (subst (λ (ids : List MsgId). AreMessages l.bag ids k.inbox) box h.stands.inbox) in
    search (ap (turn.turns b k) empty ∙ a.turn, ap (rule.turns b pt m) box ∙ ap (rule.goes_round b pt m) first ∙ a.outcome)
