-- With an empty inbox a machine's turn can be said.
use Rattle.dm_law_always.proofs.Names.{◌≡◌, ℕ, zero, suc, ◌+◌, ◌≤◌, ◌==◌, ◌&&◌, Bool, true, false, List, [], ◌∷◌, refl, ap, ◌∙◌, sym, is_some, nat_lt, inl, inr, arith, if◌then◌else◌, Option, None, Some, cases_Bool, false≢true, nat_tests, Pid}
use Rattle.dm_law_always.proofs.Names.{pid_eq, MsgId, id_eq, Label, Why, Line, PlainMessage, PlainWhat, on_mask, instruction, Boot, Reply, reply_eq, reply_code, why_code, bind, when, PlainProcess, PlainStatus, Ready, Waiting, Alive, Ended}
use Rattle.dm_law_always.proofs.Names.{OneKernel, with_process, with_sent, without_message, id_eq-is, id_eq-same, pid_eq-same, sent_at, bind-is, alive-is, counts, Point, moved, Part, Routes, times, is_kernels, not_kernels, switchboard}
use Rattle.dm_law_always.proofs.Names.{manager, not_server, nexts, are_home, Sane, eq_self, not_is, zero_if, runnable_home, option_map_or, Life, Moving, View, ends_with, preds_of, none_some}
use Rattle.dm_law_always.proofs.Fits.Rises.{set_at, both}
use Rattle.dm_law_always.proofs.Goes.Parts.{said, no_receive, Shape, Quiet, Takes, Does, does_nothing, does_label, does_route, sane_by, Can, can_as, can_line}
use Rattle.dm_law_always.proofs.Own.Told.{EndsOwns, NoOwns, OwnsFit, ends_later}
use Rattle.dm_law_always.proofs.Goes.Turns.{times_self, times_more, Droppable, droppable_on, does_ends, ends_quiet, at_hand_of}
use Rattle.dm_law_always.proofs.Order.Lines.{Last}
use Rattle.dm_onekernel.specs.Calls as calls
use Rattle.dm_onekernel.specs.Receiving as receiving
use Rattle.dm_onekernel.specs.Step as kernel
use Rattle.dm_law_rule.specs.Rule as rule

-- a process that executes
pub running_of : (s : OneKernel) (p : Pid) (x : PlainProcess) → s.processes p ≡ Some (Alive x) → s.notes p ≡ None → x.stopped ≡ false → x.status ≡ Ready → kernel.running s p ≡ Some x
running_of s p x is free going ready =
    ap (λ (o : Option PlainProcess). bind o (λ (v : PlainProcess). kernel.if_ready v v.status)) (at_hand_of s p x free is) ∙ ap (kernel.if_ready x) ready ∙ ap (λ (c : Bool). if c then None else Some x) going

pub steps_front : (c : ℕ) (m n z : kernel.Machine) → (kernel.plain_row (instruction m.regs m.bytes)) ≡ Some n → kernel.plain_steps c n ≡ Some z → kernel.plain_steps (suc c) m ≡ Some z
steps_front zero m n z e f = e ∙ f
steps_front (suc c) m n z e f =
    let (mid, before, last) = bind-is (kernel.plain_steps c n) (λ (w : kernel.Machine). kernel.plain_row (instruction w.regs w.bytes)) z f in
    ap (λ (o : Option kernel.Machine). bind o (λ (w : kernel.Machine). kernel.plain_row (instruction w.regs w.bytes))) (steps_front c m n mid e before) ∙ last

pub ran_goes : (k : ℕ) (m : kernel.Machine) (o : Option kernel.Machine) → kernel.plain_row (instruction m.regs m.bytes) ≡ o → ((n : kernel.Machine) → kernel.plain_steps (rule.ran k n).count n ≡ Some (rule.ran k n).machine)
    → (let r : rule.Ran = option_map_or (λ (n : kernel.Machine). rule.ran_one_more (rule.ran k n)) o (record { count = 0; machine = m }) in kernel.plain_steps r.count m ≡ Some r.machine)
ran_goes k m o h1 h2 = search (arith, steps_front)

pub ran_steps : (k : ℕ) (m : kernel.Machine) → kernel.plain_steps (rule.ran k m).count m ≡ Some (rule.ran k m).machine
ran_steps zero m = refl
ran_steps (suc k) m = ran_goes k m (kernel.plain_row (instruction m.regs m.bytes)) refl (ran_steps k)

pub reply_same : (n : ℕ) (c : Reply) → ((n == n) && reply_eq c c) ≡ true
reply_same n c = ap (λ (d : Bool). d && reply_eq c c) (eq_self n) ∙ eq_self (reply_code c)

-- what a process has sent is its last
counts_alive : (t : OneKernel) (p : Pid) (y : PlainProcess) (i : MsgId) → t.processes p ≡ Some (Alive y) → i.from ≡ p → (pid_eq p switchboard ≡ false) × (pid_eq p manager ≡ false) → counts t i ≡ nat_lt i.n y.sent
counts_alive t p y i is from off = search (arith, i.n, t.switchboard.sent, t.manager.sent, t.processes, off.0, off.1)

pub never_counted : (pt : Point) (i : MsgId) → Sane pt → counts pt.kernel i ≡ false → is_kernels i ≡ false → pt.view.told i ≡ None
never_counted pt i h off other = h.untold i (zero_if (h.e i) (λ least. false≢true (sym off ∙ h.sound.entered.counted i least))) other

sent_last : (pt : Point) (p : Pid) (n : ℕ) (k : PlainMessage) (y : PlainProcess) → kernel.next_trap pt.kernel p ≡ Some (kernel.Calls n (calls.Sends k y)) → p.home ≡ pt.view.acting → is_kernels k.id ≡ false → Sane pt → Last (with_sent (kernel.goes_on pt.kernel p y) (Some k)) pt.view k.id
sent_last pt p n k y next home other h =
    let s = pt.kernel in
    let w = nexts s p (kernel.Calls n (calls.Sends k y)) next in
    grind (arith, nat_tests, w.counts, not_server, w.x, w.is.alive, h.sound.made, k.id.from, k.id.n, k.id, counts_alive, w.x.sent, set_at, y.sent, never_counted)

-- a process may end, with these parts behind it
abbrev MayEnd : Type 0 → Point → Pid → List Part → Type 0
MayEnd C pt p over = (y : Why) → Does C (moved pt (Line.Label (Label.End p y)) (with_process pt.kernel p (Ended y))) over

-- what a call comes to
does_called : (C : Type 0) (pt : Point) (p : Pid) (n : ℕ) (over : List Part) (c : calls.Called) → kernel.next_trap pt.kernel p ≡ Some (kernel.Calls n c) → MayEnd C pt p over → (C → p.home ≡ pt.view.acting) → Sane pt → Does C pt (rule.called p n over c)
does_called C pt p n over (calls.Replies reply y) next ends home h =
    let s = pt.kernel in
    let step : kernel.step s (Label.Call p n reply) ≡ Some (kernel.goes_on s p y) = ap (λ (o : Option kernel.Trap). bind o (kernel.replies s p n reply)) next ∙ ap (λ (d : Bool). when d (kernel.goes_on s p y)) (reply_same n reply) in
    does_label C pt (Label.Call p n reply) (kernel.goes_on s p y) [] step (does_nothing C (moved pt (Line.Label (Label.Call p n reply)) (kernel.goes_on s p y)))
does_called C pt p n over (calls.Sends k y) next ends home h =
    let s = pt.kernel in
    let t = with_sent (kernel.goes_on s p y) (Some k) in
    let step : kernel.step s (Label.Send p k.id) ≡ Some t = ap (λ (o : Option kernel.Trap). bind o (kernel.sends s p k.id)) next ∙ ap (λ (d : Bool). when d t) (id_eq-same k.id) in
    let there : t.bag k.id ≡ Some k = sent_at (kernel.goes_on s p y) k k.id (id_eq-same k.id) in
    does_label C pt (Label.Send p k.id) t (Routes k.id ∷ []) step
    (does_route C (moved pt (Line.Label (Label.Send p k.id)) t) k.id k there (λ c sane user. sent_last pt p n k y next (home c) (not_kernels sane.r sane.e t k.id k there sane.sound) h))
does_called C pt p n over (calls.Waits y) next ends home h =
    let s = pt.kernel in
    let step : kernel.step s (Label.Wait p) ≡ Some (kernel.goes_on s p y) = ap (λ (o : Option kernel.Trap). bind o (kernel.waits s p)) next in
    does_label C pt (Label.Wait p) (kernel.goes_on s p y) [] step (does_nothing C (moved pt (Line.Label (Label.Wait p)) (kernel.goes_on s p y)))
does_called C pt p n over (calls.Outputs word y) next ends home h =
    let s = pt.kernel in
    let step : kernel.step s (Label.Out p word) ≡ Some (kernel.goes_on s p y) = ap (λ (o : Option kernel.Trap). bind o (kernel.outputs s p word)) next ∙ ap (λ (d : Bool). when d (kernel.goes_on s p y)) (eq_self word) in
    does_label C pt (Label.Out p word) (kernel.goes_on s p y) [] step (does_nothing C (moved pt (Line.Label (Label.Out p word)) (kernel.goes_on s p y)))
does_called C pt p n over (calls.Ends because) next ends home h =
    let s = pt.kernel in
    let t = with_process s p (Ended because) in
    let step : kernel.step s (Label.End p because) ≡ Some t = ap (λ (o : Option kernel.Trap). bind o (kernel.ends s p because)) next ∙ ap (λ (d : Bool). when d t) (eq_self (why_code because)) in
    does_label C pt (Label.End p because) t over step (ends because)

does_stops : (C : Type 0) (pt : Point) (p : Pid) (over : List Part) (o : Option kernel.Trap) → kernel.next_trap pt.kernel p ≡ o → MayEnd C pt p over → (C → p.home ≡ pt.view.acting) → Sane pt → Does C pt (rule.stops p over o)
does_stops C pt p over None next ends home h = does_nothing C pt
does_stops C pt p over (Some (kernel.Calls n c)) next ends home h = does_called C pt p n over c next ends home h
does_stops C pt p over (Some (kernel.Faults fault)) next ends home h =
    let s = pt.kernel in
    let because = Why.Fault fault in
    let t = with_process s p (Ended because) in
    let step : kernel.step s (Label.End p because) ≡ Some t = ap (λ (o : Option kernel.Trap). bind o (kernel.ends s p because)) next ∙ ap (λ (d : Bool). when d t) (eq_self (why_code because)) in
    does_label C pt (Label.End p because) t over step (ends because)

does_rest : (C : Type 0) (pt : Point) (c : Bool) (ps : List Part) → Does C pt ps → Does C pt (if c then [] else ps)
does_rest C pt true ps d = does_nothing C pt
does_rest C pt false ps d = d

-- what follows an end can be said
may_end : (C : Type 0) (o : Point) (m : ℕ) (pt : Point) (p : Pid) → Droppable pt.kernel p (o.view.queue m p) → (C → preds_of o m p ≡ []) → MayEnd C pt p (ends_with o m p)
may_end C o m pt p drops none y =
    let s = pt.kernel in
    let t = with_process s p (Ended y) in
    does_ends C p y o m (moved pt (Line.Label (Label.End p y)) t) (set_at s p (Ended y)) (droppable_on s t p (o.view.queue m p) (λ i least. refl) drops) none

does_executes : (C : Type 0) (b : Boot) (o : Point) (m : ℕ) (pt : Point) (p : Pid) (x : PlainProcess) → pt.kernel.processes p ≡ Some (Alive x) → pt.kernel.notes p ≡ None → x.stopped ≡ false → x.status ≡ Ready → Droppable pt.kernel p (o.view.queue m p) → (C → preds_of o m p ≡ [])
    → (C → p.home ≡ pt.view.acting) → Sane pt → Does C pt (rule.executes b.quantum p (ends_with o m p) x (rule.ran b.quantum (kernel.machine_of x)))
does_executes C b o m pt p x is free going ready drops none home h =
    let s = pt.kernel in
    let r = rule.ran b.quantum (kernel.machine_of x) in
    let y = kernel.with_machine x r.machine in
    let t = kernel.goes_on s p y in
    let step : kernel.step s (Label.Ran p r.count) ≡ Some t =
    ap (λ (o : Option PlainProcess). bind o (λ (v : PlainProcess). bind (kernel.plain_steps r.count (kernel.machine_of v)) (λ (z : kernel.Machine). Some (kernel.goes_on s p (kernel.with_machine v z))))) (running_of s p x is free going ready)
    ∙ ap (λ (o : Option kernel.Machine). bind o (λ (z : kernel.Machine). Some (kernel.goes_on s p (kernel.with_machine x z)))) (ran_steps b.quantum (kernel.machine_of x)) in
    let trap = kernel.next_row p y (instruction r.machine.regs r.machine.bytes) in
    let next : kernel.next_trap t p ≡ trap = ap (λ (v : Option PlainProcess). bind v (λ (z : PlainProcess). kernel.next_row p z (instruction z.regs z.memory))) (running_of t p y (set_at s p (Alive y)) free going ready) in
    let mid = moved pt (Line.Label (Label.Ran p r.count)) t in
    let over = ends_with o m p in
    does_label C pt (Label.Ran p r.count) t (if r.count == b.quantum then [] else rule.stops p over trap) step
    (does_rest C mid (r.count == b.quantum) (rule.stops p over trap)
    (does_stops C mid p over trap next (may_end C o m mid p (droppable_on s t p (o.view.queue m p) (λ i least. refl) drops) none) home (sane_by pt (Line.Label (Label.Ran p r.count)) t refl step h)))

-- a waiting process takes a message
pub record Awaited (s : OneKernel) (mask : ℕ) (ids : List MsgId) (i : MsgId) : Type 0 where
  pub x : PlainMessage
  pub there : s.bag i ≡ Some x
  pub what : rule.what_is_awaited mask x.what ≡ true
  pub stands : 1 ≤ times i ids

awaited_if : (s : OneKernel) (mask : ℕ) (j : MsgId) (js : List MsgId) (i : MsgId) (c : Bool) → rule.is_awaited mask (s.bag j) ≡ c → (if c then Some j else rule.first_awaited s mask js) ≡ Some i → (rule.first_awaited s mask js ≡ Some i → Awaited s mask js i) → Awaited s mask (j ∷ js) i
awaited_if s mask j js i c h1 h2 h3 = search (arith, s.bag, times_self, times_more)

pub first_is : (s : OneKernel) (mask : ℕ) (ids : List MsgId) (i : MsgId) → rule.first_awaited s mask ids ≡ Some i → Awaited s mask ids i
first_is s mask [] i e = none_some i e
first_is s mask (j ∷ js) i e = awaited_if s mask j js i (rule.is_awaited mask (s.bag j)) refl e (first_is s mask js i)

called_quiet : (p : Pid) (n : ℕ) (over : List Part) (c : calls.Called) → no_receive (said over) ≡ true → no_receive (said (rule.called p n over c)) ≡ true
called_quiet p n over (calls.Ends because) h = h
called_quiet p n over _ h = refl

stops_quiet : (p : Pid) (over : List Part) (o : Option kernel.Trap) → no_receive (said over) ≡ true → no_receive (said (rule.stops p over o)) ≡ true
stops_quiet p over None h = refl
stops_quiet p over (Some (kernel.Calls n c)) h = called_quiet p n over c h
stops_quiet p over (Some (kernel.Faults fault)) h = h

rest_quiet : (c : Bool) (ps : List Part) → no_receive (said ps) ≡ true → no_receive (said (if c then [] else ps)) ≡ true
rest_quiet true ps h = refl
rest_quiet false ps h = h

-- behind an end kernels are told of the process that has ended
ends_fit : (v : View) (p : Pid) (k : ℕ) (y : Why) (o : Point) (m : ℕ) → OwnsFit v (rule.says (Label.Ran p k) ∷ rule.says (Label.End p y) ∷ ends_with o m p)
ends_fit v p k y o m = EndsOwns (Label.Ran p k) (rule.says (Label.End p y) ∷ ends_with o m p) refl (λ s b. refl) (ends_later o m p)

called_fit : (v : View) (p : Pid) (k n : ℕ) (o : Point) (m : ℕ) (c : calls.Called) → OwnsFit v (rule.says (Label.Ran p k) ∷ rule.called p n (ends_with o m p) c)
called_fit v p k n o m (calls.Replies reply y) = NoOwns (tt, (tt, tt))
called_fit v p k n o m (calls.Sends x y) = NoOwns (tt, (tt, (tt, tt)))
called_fit v p k n o m (calls.Waits y) = NoOwns (tt, (tt, tt))
called_fit v p k n o m (calls.Outputs word y) = NoOwns (tt, (tt, tt))
called_fit v p k n o m (calls.Ends because) = ends_fit v p k because o m

stops_fit : (v : View) (p : Pid) (k : ℕ) (o : Point) (m : ℕ) (c : Bool) (t : Option kernel.Trap) → OwnsFit v (rule.says (Label.Ran p k) ∷ (if c then [] else rule.stops p (ends_with o m p) t))
stops_fit v p k o m true t = NoOwns (tt, tt)
stops_fit v p k o m false None = NoOwns (tt, tt)
stops_fit v p k o m false (Some (kernel.Calls n c)) = called_fit v p k n o m c
stops_fit v p k o m false (Some (kernel.Faults fault)) = ends_fit v p k (Why.Fault fault) o m

completes_what : (p : Pid) (x : PlainProcess) (k : PlainMessage) (mask base size : ℕ) (w : PlainWhat) → rule.what_is_awaited mask w ≡ true → k.to ≡ p → (c : receiving.Completed) × (receiving.completes_what p x k mask base size w ≡ Some c)
completes_what p x k mask base size (PlainWhat.User code channel body links) e to =
    let c = receiving.completes x base size code channel body links in
    (c, ap (λ (d : Bool). if d && on_mask mask channel then Some c else None) (ap (λ v. pid_eq v p) to ∙ pid_eq-same p) ∙ ap (λ (d : Bool). if d then Some c else None) e)
completes_what p x k mask base size _ e to = cc

does_completes : (C : Type 0) (pt : Point) (p : Pid) (i : MsgId) (c : receiving.Completed) → kernel.completing pt.kernel p i ≡ Some c → Does C pt (rule.completion_parts p i c)
does_completes C pt p i (receiving.Receives y) e =
    let s = pt.kernel in
    let t = kernel.goes_on (without_message s i) p y in
    let step : kernel.step s (Label.Receive p i) ≡ Some t = ap (λ (o : Option receiving.Completed). bind o (kernel.receives s p i)) e in
    does_label C pt (Label.Receive p i) t [] step (does_nothing C (moved pt (Line.Label (Label.Receive p i)) t))
does_completes C pt p i (receiving.Refuses reply y) e =
    let s = pt.kernel in
    let t = kernel.goes_on s p y in
    let step : kernel.step s (Label.Refuse p i reply) ≡ Some t = ap (λ (o : Option receiving.Completed). bind o (kernel.refuses s p reply)) e ∙ ap (λ (d : Bool). when d t) (eq_self (reply_code reply)) in
    does_label C pt (Label.Refuse p i reply) t [] step (does_nothing C (moved pt (Line.Label (Label.Refuse p i reply)) t))

droppable_to : (s : OneKernel) (p : Pid) (ids : List MsgId) (i : MsgId) (x : PlainMessage) → s.bag i ≡ Some x → 1 ≤ times i ids → Droppable s p ids → x.to ≡ p
droppable_to s p [] i x there least h = absurd (omega (arith, least))
droppable_to s p (j ∷ js) i x there least h = elim (cases_Bool (id_eq i j)) [
  | inl same ↦
      let e : i ≡ j = id_eq-is i j same in
      let f : Some h.0.x ≡ Some x = sym h.0.there ∙ ap s.bag (sym e) ∙ there in
      let k : h.0.x ≡ x = cc in
      ap (λ (v : PlainMessage). v.to) (sym k) ∙ h.0.to
  | inr apart ↦
      let e : times i (j ∷ js) ≡ 0 + times i js = ap (λ (c : Bool). (if c then 1 else 0) + times i js) apart in
      droppable_to s p js i x there (omega (arith, least, e)) h.2
]

completes_shape : (m : ℕ) (pt : Point) (p : Pid) (i : MsgId) (mask : ℕ) (c : receiving.Completed) → rule.first_awaited pt.kernel mask (pt.view.queue m p) ≡ Some i → kernel.completing pt.kernel p i ≡ Some c → Shape m pt (rule.completion_parts p i c)
completes_shape m pt p i mask (receiving.Receives y) first e = Takes (record {
  p = p;
  i = i;
  is = refl;
  mask = mask;
  first = first;
  t = kernel.goes_on (without_message pt.kernel i) p y;
  step = ap (λ (o : Option receiving.Completed). bind o (kernel.receives pt.kernel p i)) e;
})
completes_shape m pt p i mask (receiving.Refuses reply y) first e = Quiet refl

can_receive : (C : Type 0) (m : ℕ) (pt : Point) (p : Pid) (queue : List MsgId) (x : PlainProcess) (mask base size : ℕ) (o : Option MsgId) → x.status ≡ Waiting mask base size → rule.first_awaited pt.kernel mask queue ≡ o → is_some o ≡ true → pt.kernel.processes p ≡ Some (Alive x)
    → pt.kernel.notes p ≡ None → x.stopped ≡ false → queue ≡ pt.view.queue m p → Droppable pt.kernel p queue → Can C m pt (rule.reception_parts pt.kernel p x o)
can_receive C m pt p queue x mask base size None status first some is free going same drops = cc
can_receive C m pt p queue x mask base size (Some i) status first some is free going same drops =
    let s = pt.kernel in
    let a = first_is s mask queue i first in
    let k = a.x in
    let to = droppable_to s p queue i k a.there a.stands drops in
    search (arith, completes_what, k.what, a.what, x.status, s.bag, at_hand_of, a.there, does_completes, completes_shape)

can_serve : (C : Type 0) (b : Boot) (m : ℕ) (o pt : Point) (p : Pid) (x : PlainProcess) (st : PlainStatus) → x.status ≡ st → rule.status_can_go pt.kernel (o.view.queue m p) st ≡ true → pt.kernel.processes p ≡ Some (Alive x) → pt.kernel.notes p ≡ None → x.stopped ≡ false → o.view.queue m p ≡ pt.view.queue m p
    → Droppable pt.kernel p (o.view.queue m p) → (C → preds_of o m p ≡ []) → (C → p.home ≡ pt.view.acting) → Sane pt → Can C m pt (rule.serves_status b.quantum pt.kernel p (o.view.queue m p) (ends_with o m p) x st)
can_serve C b m o pt p x Ready status go is free going same drops none home h =
    let r = rule.ran b.quantum (kernel.machine_of x) in
    let trap = kernel.next_row p (kernel.with_machine x r.machine) (instruction r.machine.regs r.machine.bytes) in
    let over = ends_with o m p in
    record {
      ps = rule.executes b.quantum p over x r;
      is = refl;
      does = does_executes C b o m pt p x is free going status drops none home h;
      shape = Quiet (rest_quiet (r.count == b.quantum) (rule.stops p over trap) (stops_quiet p over trap (ends_quiet o m p)));
      owns = stops_fit pt.view p r.count o m (r.count == b.quantum) trap;
    }
can_serve C b m o pt p x (Waiting mask base size) status go is free going same drops none home h =
    can_receive C m pt p (o.view.queue m p) x mask base size (rule.first_awaited pt.kernel mask (o.view.queue m p)) status refl go is free going same drops
can_serve C b m o pt p x (Moving dir owner base own left pending) status go is free going same drops none home h = absurd (false≢true go)

-- the first of the ring that can be served
pub record Runnable (s : OneKernel) (queue : Pid → List MsgId) (p : Pid) : Type 0 where
  pub x : PlainProcess
  pub is : s.processes p ≡ Some (Alive x)
  pub going : x.stopped ≡ false
  pub go : rule.status_can_go s (queue p) x.status ≡ true

runnable_is : (s : OneKernel) (queue : Pid → List MsgId) (ps : List Pid) (q : Pid) → rule.first_runnable s queue ps ≡ Some q → Runnable s queue q
runnable_is s queue [] q e = none_some q e
runnable_is s queue (p ∷ ps) q e = search (arith, rule.can_go s (queue p) (kernel.alive (s.processes p)), runnable_is s queue ps q, both, alive-is, not_is)

can_go_round : (C : Type 0) (b : Boot) (m : ℕ) (o pt : Point) (p : Option Pid) → o.kernel ≡ pt.kernel → ((q : Pid) → o.view.queue m q ≡ pt.view.queue m q) → ((q : Pid) → p ≡ Some q → Runnable pt.kernel (o.view.queue m) q) → ((q : Pid) → p ≡ Some q → pt.kernel.notes q ≡ None) → ((q : Pid) → Droppable pt.kernel q (o.view.queue m q)) → (C → (q : Pid) → preds_of o m q ≡ [])
    → (C → (q : Pid) → p ≡ Some q → q.home ≡ pt.view.acting) → Sane pt → Can C m pt (rule.goes_round b o m p)
can_go_round C b m o pt None same boxes run free drops none home h = can_line C m pt (Line.Idle m) refl refl (λ c k o_. o_)
can_go_round C b m o pt (Some p) same boxes run free drops none home h =
    let r = run p refl in
    let queue = o.view.queue m p in
    let over = ends_with o m p in
    can_as C m pt (rule.goes_round b o m (Some p)) (rule.serves_status b.quantum pt.kernel p queue over r.x r.x.status)
    (ap (λ (s : OneKernel). bind (kernel.alive (s.processes p)) (λ (x : PlainProcess). rule.serves_status b.quantum s p queue over x x.status)) same
    ∙ ap (λ (l : Option Life). bind (kernel.alive l) (λ (x : PlainProcess). rule.serves_status b.quantum pt.kernel p queue over x x.status)) r.is)
    (can_serve C b m o pt p r.x r.x.status refl r.go r.is (free p refl) r.going (boxes p) (drops p) (λ c. none c p) (λ c. home c p refl) h)

pub can_turn : (C : Type 0) (b : Boot) (m : ℕ) (o pt : Point) → o.kernel ≡ pt.kernel → ((q : Pid) → o.view.queue m q ≡ pt.view.queue m q) → ((q : Pid) → rule.first_runnable o.kernel (o.view.queue m) (o.view.ring m) ≡ Some q → pt.kernel.notes q ≡ None) → ((q : Pid) → Droppable pt.kernel q (o.view.queue m q)) → (C → (q : Pid) → preds_of o m q ≡ []) → (C → are_home m (o.view.ring m) ≡ true) → pt.view.acting ≡ m → Sane pt
    → Can C m pt (rule.goes_round b o m (rule.first_runnable o.kernel (o.view.queue m) (o.view.ring m)))
can_turn C b m o pt same boxes free drops none home acting h = search (arith, can_go_round, o.kernel, o.view.queue, o.view.ring, runnable_is, pt.kernel, runnable_home)
