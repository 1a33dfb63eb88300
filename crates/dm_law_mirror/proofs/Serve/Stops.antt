-- A ready process is served: it uses up its quantum, or stops at a call or a fault.
use Rattle.dm_law_mirror.proofs.Names.{◌≡◌, ℕ, ◌+◌, ◌≤◌, Bool, false, List, [], ◌∷◌, map, length, refl, ap, ◌∙◌, sym, subst, arith, nat_le, is_some, true, not, ◌==◌, ◌&&◌, None, Some, false≢true, nat_tests, Pid, pid_eq, Message, MsgId, id_eq}
use Rattle.dm_law_mirror.proofs.Names.{PlainMessage, plain_message, Process, Record, Resident, Label, Called, Line, Known, Boot, Why, Alive, OneKernel, with_process, plain_process, PlainProcess, id_eq-same, pid_eq-same, not_counted, counts_process}
use Rattle.dm_law_mirror.proofs.Names.{not_server, after_ran, nexts, Point, moved, moved_back, Spot, Queue, times, standing, View, is_kernels, set_at, droppable_on, Placed, parts, with_queue, KernelState, turned, with_here, AllOwnStand}
use Rattle.dm_law_mirror.proofs.Names.{AreMessages, if◌then◌else◌, Status, plain_status, Machine, Mirrors, StepNeeds, ran_matches, running_of, Part, seen, Ended, ◌++◌, MessageKind, Option, Told, id_of, pid_of, to_kernel, nobody}
use Rattle.dm_law_always.proofs.Names.{with_sent}
pub use Rattle.dm_law_always.proofs.Goes.Serves.{ran_steps}
use Rattle.dm_onekernel.specs.Step as kernel
use Rattle.dm_law_mirror.proofs.Turning.{OneEnds, Tells, one_ends}
use Rattle.dm_law_rule.specs.Parts as rule_part
use Rattle.dm_law_rule.specs.Rule as rule
use Rattle.dm_law_places.specs.PlacedStep as placed
use Rattle.dm_kernel.specs.State as machine
use Rattle.dm_kernel.specs.Serve as serve
use Rattle.dm_law_mirror.proofs.Kernel.Sets.{Leaves, leaves_on, kernel_leaves_on, placed_leaves_on, is_queue_of, off_if, on_if, queue_of_others, inbox_stands, messages_on, ViewLeaves, ends_stands, view_same, view_ended, kernel_sets}
use Rattle.dm_law_mirror.proofs.Kernel.Sets.{placed_sets, placed_puts, NotOwn, machine_on, record_on, nowhere_alone, label_mirrors, after_label, view_serving}
use Rattle.dm_law_mirror.proofs.Serving.{Served, Acts, moved_round, goes_on_acts, is_for, queue_alone}
use Rattle.dm_law_mirror.proofs.Serve.Runs.{drop_lines, drops_stand, drops_still, rule_drops, machine_drops}
pub use Rattle.dm_law_mirror.proofs.Follow.Fronts.{append_none as nothing_more}
use Rattle.dm_law_rule.specs.Burying as burying
use Rattle.dm_kernel.specs.Burying as machine_burying
use Rattle.dm_law_mirror.proofs.Preds.{none_kept, others_kept}
use Rattle.dm_law_mirror.proofs.Buries.{bury_messages, buries_may, machine_buries, many_buries, rule_buries}

-- behind the plain instructions: the process is y, and at the ring's back
abbrev pub ran_kernel : Point → Pid → Process → OneKernel
ran_kernel pt p y = kernel.goes_on pt.kernel p (plain_process y)

abbrev pub ran_point : Point → Pid → ℕ → Process → Point
ran_point pt p c y = moved pt (Line.Label (Label.Ran p c)) (ran_kernel pt p y)

abbrev pub ran_placed : Placed → Pid → Process → List Message → Placed
ran_placed l p y queue = placed.with_process l p (Some (with_queue y queue))

pub record Ran (m : ℕ) (pt : Point) (l : Placed) (p : Pid) (x : Process) (queue : List Message) (c : ℕ) (y : Process) : Type 0 where
  pub step : kernel.step pt.kernel (Label.Ran p c) ≡ Some (ran_kernel pt p y)
  pub mirrors : Mirrors (ran_kernel pt p y) (ran_point pt p c y).view (ran_point pt p c y).addresses (ran_placed l p y queue)
  pub leaves : Leaves m (is_queue_of m p) p pt l (ran_point pt p c y) (ran_placed l p y queue)
  pub ready : placed.if_ready y y.status ≡ Some y
  pub running : kernel.running (ran_kernel pt p y) p ≡ Some (plain_process y)
  pub there : (ran_placed l p y queue).processes p ≡ Some (with_queue y queue)
  pub ring : (ran_point pt p c y).view.ring m ≡ moved_back p (pt.view.ring m)
  pub memory : length y.memory ≡ length x.memory
  pub same_queue : y.queue ≡ x.queue

pub ran_of : (b : Boot) (m : ℕ) (pt : Point) (l : Placed) (k : KernelState) (p : Pid) (x : Process) (c : ℕ) (n : Machine) (s : Served b m pt l k p x) → x.status ≡ Status.Ready → kernel.plain_steps c (kernel.machine_of (plain_process x)) ≡ Some n → length n.bytes ≡ length x.memory
    → Ran m pt l p x s.at.queue c (serve.with_machine x n)
ran_of b m pt l k p x c n s ready steps memory =
    let y = serve.with_machine x n in
    let queue = s.at.queue in
    let t = ran_kernel pt p y in
    let step : kernel.step pt.kernel (Label.Ran p c) ≡ Some t = grind (arith, nat_tests, running_of) in
    let ready_x : placed.if_ready x x.status ≡ Some x = ap (placed.if_ready x) ready ∙ ap (λ (d : Bool). if d then None else Some x) s.going in
    search (
      label_mirrors pt l (ran_placed l p y queue) m (Label.Ran p c) t s.mirrors s.acting tt step (ran_matches l p c x queue n s.at.there ready_x steps),
      view_serving m (is_queue_of m p) p pt.view s.acting,
      kernel_sets p pt.kernel (Alive (plain_process y)),
      placed_sets (is_queue_of m p) p pt.view l (Some (with_queue y queue)),
      ap (placed.if_ready y) ready ∙ ap (λ (d : Bool). if d then None else Some y) s.going,
      running_of t p (plain_process y) (set_at pt.kernel p (Alive (plain_process y))) s.at.free s.going (ap plain_status ready),
      on_if (pid_eq p p) (Some (with_queue y queue)) (l.processes p) (pid_eq-same p),
      machine_on pt.view.ring pt.view.acting m (moved_back p (pt.view.ring pt.view.acting)) s.acting ∙ ap (λ (a : ℕ). moved_back p (pt.view.ring a)) s.acting,
    )

-- the quantum is used up
pub whole_acts : (b : Boot) (m : ℕ) (pt : Point) (l : Placed) (k : KernelState) (p : Pid) (x y : Process) (c : ℕ) (s : Served b m pt l k p x) → Ran m pt l p x s.at.queue c y
    → Acts b m pt l k p (turned (with_here (moved_round k p) p y) (machine.says (Label.Ran p c) ∷ [])) (Some (rule.says (Label.Ran p c) ∷ []))
whole_acts b m pt l k p x y c s r =
    goes_on_acts b m pt (ran_point pt p c y) l (ran_placed l p y s.at.queue) k p x y s.at.queue (Line.Label (Label.Ran p c) ∷ []) None s
    (after_label pt (Label.Ran p c) (ran_kernel pt p y) [] (ran_point pt p c y) r.step refl) r.mirrors r.leaves refl refl r.ring
    (set_at pt.kernel p (Alive (plain_process y))) r.there (subst (AreMessages l.bag (pt.view.queue m p)) (sym r.same_queue) s.at.messages) r.memory tt refl

-- a call after which it goes on, and sends nothing
pub goes_acts : (b : Boot) (m : ℕ) (pt : Point) (l : Placed) (k : KernelState) (p : Pid) (x y z : Process) (c : ℕ) (e : Label) (s : Served b m pt l k p x) → Ran m pt l p x s.at.queue c y
    → ((u : OneKernel) (v : View) → seen u v (Line.Label e) ≡ v) → StepNeeds (ran_kernel pt p y) (ran_point pt p c y).view e
    → kernel.step (ran_kernel pt p y) e ≡ Some (kernel.goes_on (ran_kernel pt p y) p (plain_process z))
    → placed.placed_step m pt.kernel.format pt.kernel.images (ran_placed l p y s.at.queue) e ≡ Some (placed.with_process (ran_placed l p y s.at.queue) p (Some (with_queue z s.at.queue))) → z.queue ≡ x.queue → length z.memory ≡ length x.memory
    → Acts b m pt l k p (turned (with_here (moved_round k p) p z) (machine.says (Label.Ran p c) ∷ machine.says e ∷ [])) (Some (rule.says (Label.Ran p c) ∷ rule.says e ∷ []))
goes_acts b m pt l k p x y z c e s r still needs step with_ queue_is memory =
    let t = is_queue_of m p in
    let queue = s.at.queue in
    let o = ran_point pt p c y in
    let lm = ran_placed l p y queue in
    let u = kernel.goes_on (ran_kernel pt p y) p (plain_process z) in
    let next = moved o (Line.Label e) u in
    let on = placed.with_process lm p (Some (with_queue z queue)) in
    let same : next.view ≡ o.view = still (ran_kernel pt p y) o.view in
    let second : Leaves m t p o lm next on = record { view = subst (λ (v : View). ViewLeaves m t p o.view v) (sym same) (view_same m t p o.view); kernel = kernel_sets p (ran_kernel pt p y) (Alive (plain_process z)); placed_ = placed_sets t p o.view lm (Some (with_queue z queue)) } in
    goes_on_acts b m pt next l on k p x z queue (Line.Label (Label.Ran p c) ∷ Line.Label e ∷ []) None s (after_label pt (Label.Ran p c) (ran_kernel pt p y) (Line.Label e ∷ []) next r.step (after_label o e u [] next step refl))
    (label_mirrors o lm on m e u r.mirrors s.acting needs step with_) (leaves_on m t p pt o next l lm on r.leaves second) (ap (λ (v : View). v.known m p) same) (ap (λ (v : View). v.preds m p) same) (ap (λ (v : View). v.ring m) same ∙ r.ring)
    (set_at (ran_kernel pt p y) p (Alive (plain_process z))) (on_if (pid_eq p p) (Some (with_queue z queue)) (lm.processes p) (pid_eq-same p))
    (subst (λ (v : View). AreMessages l.bag (v.queue m p) z.queue) (sym same) (subst (AreMessages l.bag (pt.view.queue m p)) (sym queue_is) s.at.messages)) memory tt refl

-- A ready process stops at a call that sends, or ends; and all that it can come to.

-- a message that is sent is new, and no kernel's own
fresh_message : (b : Boot) (m : ℕ) (pt : Point) (l : Placed) (k : KernelState) (p : Pid) (x y : Process) (c n : ℕ) (w : PlainMessage) (z : PlainProcess) (s : Served b m pt l k p x) → kernel.step pt.kernel (Label.Ran p c) ≡ Some (ran_kernel pt p y)
    → kernel.next_trap (ran_kernel pt p y) p ≡ Some (kernel.Calls n (Called.Sends w z)) → (pt.kernel.bag w.id ≡ None) × (is_kernels w.id ≡ false)
fresh_message b m pt l k p x y c n w z s step next =
    let t = ran_kernel pt p y in
    let a = after_ran s.r s.e pt.kernel t p c step s.sound in
    let g = nexts t p (kernel.Calls n (Called.Sends w z)) next in
    let (v, sent, pending, counted) = g.counts in
    let from : w.id.from ≡ p = ap (λ (i : MsgId). i.from) counted.id in
    let number : w.id.n ≡ v.sent = ap (λ (i : MsgId). i.n) counted.id in
    let made : nat_le 3 p.num ≡ true = s.sound.made.least p (ap is_some s.at.alive) in
    let num : w.id.from.num ≡ p.num = ap (λ (q : Pid). q.num) from in (
      not_counted (λ i. s.r i + _) (λ i. s.e i + _) t w.id (grind (arith, nat_tests, counts_process, not_server)) a.sound.entered,
      let e : (w.id.from.num == 0) ≡ false = grind (arith, nat_tests) in ap (λ (d : Bool). d && not w.id.answer) e,
    )

-- a call that sends a message
pub sends_acts : (b : Boot) (m : ℕ) (pt : Point) (l : Placed) (k : KernelState) (p : Pid) (x y z : Process) (c n : ℕ) (w : Message) (u : PlainMessage) (s : Served b m pt l k p x) → Ran m pt l p x s.at.queue c y → plain_message w ≡ Some u
    → kernel.next_trap (ran_kernel pt p y) p ≡ Some (kernel.Calls n (Called.Sends u (plain_process z)))
    → placed.acts m (ran_placed l p y s.at.queue) p ≡ Some (placed.with_sent (placed.with_process (ran_placed l p y s.at.queue) p (Some (with_queue z s.at.queue))) (Some w)) → z.queue ≡ x.queue → length z.memory ≡ length x.memory
    → Acts b m pt l k p (turned (with_here (moved_round k p) p z) (machine.says (Label.Ran p c) ∷ machine.says (Label.Send p w.id) ∷ Part.Routes w ∷ [])) (Some (rule.says (Label.Ran p c) ∷ rule.says (Label.Send p u.id) ∷ rule_part.Routes u.id ∷ []))
sends_acts b m pt l k p x y z c n w u s r says next with_ queue_is memory =
    let t = is_queue_of m p in
    let queue = s.at.queue in
    let o = ran_point pt p c y in
    let lm = ran_placed l p y queue in
    let name : w.id ≡ u.id = (parts w u says).id in
    let e = Label.Send p w.id in
    let goes = kernel.goes_on (ran_kernel pt p y) p (plain_process z) in
    let after_ = with_sent goes (Some u) in
    let step : kernel.step (ran_kernel pt p y) e ≡ Some after_ = grind (arith, nat_tests, id_eq-same) in
    let next_ = moved o (Line.Label e) after_ in
    let mid = placed.with_process lm p (Some (with_queue z queue)) in
    let on = placed.with_sent mid (Some w) in
    let new = fresh_message b m pt l k p x y c n u (plain_process z) s r.step next in
    let fresh : pt.kernel.bag w.id ≡ None = ap pt.kernel.bag name ∙ new.0 in
    let mine : is_kernels w.id ≡ false = ap is_kernels name ∙ new.1 in
    let alone : (t : Spot → Bool) (i : MsgId) (spot : Spot) → t spot ≡ false → 1 ≤ standing pt.view i spot → id_eq w.id i ≡ false = nowhere_alone pt.view w.id (pt.kernel.bag w.id) mine fresh (s.kept w.id) in
    -- none of the messages with places has its name
    let not_own_fresh : (v : View) (l : Placed) (i : MsgId) → AllOwnStand v l → is_kernels i ≡ false → NotOwn (l.bag i) = λ v l i h off x there none. false≢true (sym off ∙ (h i x there none).mine) in
    let second : Leaves m t p o lm next_ on = record {
      view = view_same m t p o.view;
      kernel = kernel_leaves_on p (ran_kernel pt p y) goes after_ (kernel_sets p (ran_kernel pt p y) (Alive (plain_process z))) (record { machines = refl; made = λ n. refl; life = λ q off. refl });
      placed_ = placed_leaves_on t p o.view lm mid on (placed_sets t p o.view lm (Some (with_queue z queue)))
          (placed_puts t p o.view mid w u (not_own_fresh pt.view l w.id s.own mine) says (λ i spot off least. alone t i spot off (subst (λ (v : ℕ). 1 ≤ v) (ap (times i) (r.leaves.view.lists spot off)) least)));
    } in
    let messages : AreMessages on.bag (pt.view.queue m p) z.queue =
    messages_on l.bag on.bag (pt.view.queue m p) z.queue (λ i least. off_if (id_eq w.id i) (Some w) (l.bag i) (alone (λ spot. false) i (Queue m p) refl least)) (subst (AreMessages l.bag (pt.view.queue m p)) (sym queue_is) s.at.messages)
    in
    subst (λ (i : MsgId). Acts b m pt l k p (turned (with_here (moved_round k p) p z) (machine.says (Label.Ran p c) ∷ machine.says e ∷ Part.Routes w ∷ []))
    (Some (rule.says (Label.Ran p c) ∷ rule.says (Label.Send p i) ∷ rule_part.Routes i ∷ []))) name
    (goes_on_acts b m pt next_ l on k p x z queue (Line.Label (Label.Ran p c) ∷ Line.Label e ∷ []) (Some w) s (after_label pt (Label.Ran p c) (ran_kernel pt p y) (Line.Label e ∷ []) next_ r.step (after_label o e after_ [] next_ step refl))
    (label_mirrors o lm on m e after_ r.mirrors s.acting tt step with_) (leaves_on m t p pt o next_ l lm on r.leaves second) refl refl r.ring (set_at (ran_kernel pt p y) p (Alive (plain_process z)))
    (on_if (pid_eq p p) (Some (with_queue z queue)) (lm.processes p) (pid_eq-same p)) messages memory (on_if (id_eq w.id w.id) (Some w) (mid.bag w.id) (id_eq-same w.id), ap is_some says) refl)

pub ends_acts : (b : Boot) (m : ℕ) (pt : Point) (l : Placed) (k : KernelState) (p : Pid) (x y z : Process) (c : ℕ) (because : Why) (s : Served b m pt l k p x) → Ran m pt l p x s.at.queue c y
    → kernel.step (ran_kernel pt p y) (Label.End p because) ≡ Some (with_process (ran_kernel pt p y) p (Ended because)) → placed.acts m (ran_placed l p y s.at.queue) p ≡ Some (placed.with_process (ran_placed l p y s.at.queue) p None)
    → z.queue ≡ x.queue → length z.memory ≡ length x.memory
    → Acts b m pt l k p (serve.ends (with_here (moved_round k p) p z) p c z because) (Some (rule.says (Label.Ran p c) ∷ rule.says (Label.End p because) ∷ burying.ends_with pt m p))
ends_acts b m pt l k p x y z c because s r step with_ queue_is memory =
    let t = is_queue_of m p in
    let ids = pt.view.queue m p in
    let o = ran_point pt p c y in
    let lm = ran_placed l p y s.at.queue in
    let e = Label.End p because in
    let u = with_process (ran_kernel pt p y) p (Ended because) in
    let o2 = moved o (Line.Label e) u in
    let l2 = placed.with_process lm p None in
    let second : Leaves m t p o lm o2 l2 = record { view = view_ended m t p o.view s.acting; kernel = kernel_sets p (ran_kernel pt p y) (Ended because); placed_ = placed_sets t p o.view lm None } in
    let first = leaves_on m t p pt o o2 l lm l2 r.leaves second in
    let ended : u.processes p ≡ Some (Ended because) = set_at (ran_kernel pt p y) p (Ended because) in
    let d = drops_stand m t p because ids o2 l2 (λ n q off. off) (λ n. refl) (label_mirrors o lm l2 m e u r.mirrors s.acting tt step with_) s.acting ended (droppable_on pt.kernel u p ids (λ i least. refl) s.drops)
    (λ j least i spot off there. queue_alone m p pt.kernel pt.view s.kept j least i spot off (subst (λ (v : ℕ). 1 ≤ v) (ap (times i) (first.view.lists spot off)) there))
    (λ i least. let f = is_for pt.kernel p ids i s.drops least in s.told i f.x f.there ∙ ap Some f.to) in
    let leaves = leaves_on m t p pt o2 d.next l l2 d.placed first d.leaves in
    let k1 = with_here (moved_round k p) p z in
    let tos = machine_burying.preds_of k p in
    let n = machine_burying.after_end k1 p z because in
    let tells = bury_messages k1 p tos in
    let messages : AreMessages l.bag ids z.queue = subst (AreMessages l.bag ids) (sym queue_is) s.at.messages in
    let names = λ (i : MsgId) (w : Message) (there : l.bag i ≡ Some w). (s.mirrors.places.message i w there).id in
    let ring : n.ring ≡ d.next.view.ring m = grind (arith, nat_tests, machine_on) in
    record {
      state = n;
      says = Line.Label (Label.Ran p c) ∷ Line.Label e ∷ drop_lines ids;
      route = Tells tells;
      turn = λ i. Some (record { state = n; parts = machine.says (Label.Ran p c) ∷ machine.says e ∷ machine_drops l ids z.queue names messages i ++ machine_buries k1 p tos i });
      outcome = λ i. Some (rule.says (Label.Ran p c) ∷ rule.says e ∷ rule_drops ids i ++ (ap (map (to_kernel MessageKind.Bury)) (sym s.preds) ∙ rule_buries k1 p tos) i);
      next = d.next;
      after = after_label pt (Label.Ran p c) (ran_kernel pt p y) (Line.Label e ∷ drop_lines ids) d.next r.step (after_label o e u (drop_lines ids) d.next step d.after);
      placed = d.placed;
      mirrors = d.mirrors;
      kernel = ends_stands b m t p pt d.next l d.placed k n x z because s.at leaves
          (record {
            here = refl;
            records = λ q off. off_if (pid_eq p q) None ((with_here (moved_round k p) p z).records q) off ∙ off_if (pid_eq p q) (Some (Record.Here (Resident.Process z))) (k.records q) off;
            made = refl;
            preds = λ q off. others_kept k.preds p q off;
          })
          (λ q off. queue_of_others m p q off) (λ q. refl) (on_if (pid_eq p p) None ((with_here (moved_round k p) p z).records p) (pid_eq-same p)) (none_kept k.preds p p (pid_eq-same p)) (d.preds ∙ record_on o.view.preds o.view.acting m p nobody s.acting) refl ring
          (inbox_stands m t p pt d.next l d.placed k.inbox leaves refl s.stands.inbox) (d.known ∙ record_on o.view.known o.view.acting m p Known.Unknown s.acting) (d.process ∙ ended) memory s.made s.stands;
      leaves = leaves;
      sent = λ counted records. buries_may d.next d.placed records m (pt.view.count m) 0 p k1 tos
          (record {
            acting = leaves.view.acting ∙ s.acting;
            count = leaves.view.count m;
            topic = d.topic;
            untold = λ j le. ap (λ (f : MsgId → Option Told). f (id_of (pid_of m 0) j)) leaves.view.told ∙ s.untold j le;
            absent = λ j le. d.fewer (id_of (pid_of m 0) j) (s.absent j le);
          }) s.stands.here (let same : pt.view.count m ≡ pt.view.count m + 0 = omega arith in counted ∙ same);
      still = drops_still ids;
      over = OneEnds m p because refl refl (one_ends pt.kernel d.next.kernel p because leaves.kernel.life (d.process ∙ ended));
      count = ap (λ (j : ℕ). k.sent + j) (sym (many_buries k1 p tos));
      records = λ q off. off_if (pid_eq p q) None ((with_here (moved_round k p) p z).records q) off ∙ off_if (pid_eq p q) (Some (Record.Here (Resident.Process z))) (k.records q) off;
    }
