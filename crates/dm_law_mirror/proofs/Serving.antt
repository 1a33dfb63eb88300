-- The process that a turn serves, and what serving it gives by the machine and by the rule.
use Rattle.dm_law_mirror.proofs.Names.{◌≡◌, ◌≢◌, ℕ, ◌+◌, ◌≤◌, ◌&&◌, Bool, true, false, List, [], ◌∷◌, ◌++◌, map, length, refl, ap, ◌∙◌, sym, subst, inl, inr, arith, if◌then◌else◌, Option, Some, cases_Bool, false≢true, Pid, pid_eq, nat_tests}
use Rattle.dm_law_mirror.proofs.Names.{Message, MsgId, id_eq, PlainMessage, Process, Record, Resident, Boot, Alive, OneKernel, plain_process, id_eq-is, pid_eq-same, Sound, Line, Point, after, moved_back, Spot, Queue, times, standing, StandsRight, View}
use Rattle.dm_law_mirror.proofs.Names.{receiver_of, once_at, Droppable, IsFor, Placed, Mirrors, with_queue, KernelState, Turned, with_here, AllOwnStand, MadeStands, AreMessages, KernelStands, Part, Step, None, id_of, pid_of}
use Rattle.dm_onekernel.specs.Step as kernel
use Rattle.dm_law_rule.specs.Parts as rule
use Rattle.dm_law_rule.specs.Burying as burying
use Rattle.dm_kernel.specs.Burying as machine
use Rattle.dm_law_mirror.proofs.Turning.{EndsSo, NoneEnds, spared, given_parts, rule_given, routed, rule_routed, are_still, AreCounted, AreGiven, Gives, IsSent, Sends}
use Rattle.dm_law_mirror.proofs.Kernel.Sets.{Leaves, is_queue_of, off_if, on_if, eq_self, queue_of_others, inbox_stands, LivesHere, goes_stands}
use Rattle.dm_law_mirror.proofs.Serve.Runs.{AreAlone}

-- process p of machine m, as the machine has it, at a point behind the head of a turn
pub record Served (b : Boot) (m : ℕ) (pt : Point) (l : Placed) (k : KernelState) (p : Pid) (x : Process) : Type 0 where
  pub at : LivesHere m pt l k p x
  pub acting : pt.view.acting ≡ m
  pub mirrors : Mirrors pt.kernel pt.view pt.addresses l
  pub stands : KernelStands b pt l m k
  pub made : MadeStands pt.kernel
  pub going : x.stopped ≡ false
  pub kept : (i : MsgId) → StandsRight i (pt.kernel.bag i) (standing pt.view i)
  pub told : (i : MsgId) (w : PlainMessage) → pt.kernel.bag i ≡ Some w → receiver_of (pt.view.told i) ≡ Some w.to
  pub drops : Droppable pt.kernel p (pt.view.queue m p)
  pub r : MsgId → ℕ
  pub e : MsgId → ℕ
  pub sound : Sound r e pt.kernel
  pub own : AllOwnStand pt.view l
  -- no name that the kernel hasn't used was told, or stands in the bag; and its predecessors are those of the lines
  pub untold : (n : ℕ) → pt.view.count m ≤ n → pt.view.told (id_of (pid_of m 0) n) ≡ None
  pub absent : (n : ℕ) → pt.view.count m ≤ n → l.bag (id_of (pid_of m 0) n) ≡ None
  pub preds : machine.preds_of k p ≡ burying.preds_of pt m p

-- what serving it gives
pub record Acts (b : Boot) (m : ℕ) (pt : Point) (l : Placed) (k : KernelState) (p : Pid) (turned : Option Turned) (parts : Option (List rule.Part)) : Type 0 where
  pub state : KernelState
  pub says : List Line
  pub route : Gives
  pub turn : turned ≡ Some (record { state = state; parts = map Part.Says says ++ given_parts route })
  pub outcome : parts ≡ Some (map rule.Says says ++ rule_given route)
  pub next : Point
  pub after : after pt says ≡ Some next
  pub placed : Placed
  pub mirrors : Mirrors next.kernel next.view next.addresses placed
  pub kernel : KernelStands b next placed m state
  pub leaves : Leaves m (is_queue_of m p) p pt l next placed
  pub sent : AreGiven k.sent (pt.view.count m) next placed route
  pub still : are_still says ≡ true
  pub over : EndsSo (Step.Turn m) pt.kernel next.kernel k.over state.over
  pub count : AreCounted k.sent state.sent route
  pub records : (q : Pid) → pid_eq p q ≡ false → state.records q ≡ k.records q

pub acts_as : (b : Boot) (m : ℕ) (pt : Point) (l : Placed) (k : KernelState) (p : Pid) (t u : Option Turned) (ps qs : Option (List rule.Part)) → t ≡ u → ps ≡ qs → Acts b m pt l k p u qs → Acts b m pt l k p t ps
acts_as b m pt l k p t u ps qs e f h = search (e ∙ h.turn, f ∙ h.outcome)

-- the machine's kernel with the process at the ring's back
abbrev pub moved_round : KernelState → Pid → KernelState
moved_round k p = record k { ring = moved_back p k.ring }

-- the process goes on as y behind these lines, is at the ring's back, and sends at most one message
pub goes_on_acts : (b : Boot) (m : ℕ) (pt next : Point) (l placed : Placed) (k : KernelState) (p : Pid) (x y : Process) (queue : List Message) (says : List Line) (route : Option Message) → Served b m pt l k p x → after pt says ≡ Some next
    → Mirrors next.kernel next.view next.addresses placed → Leaves m (is_queue_of m p) p pt l next placed → next.view.known m p ≡ pt.view.known m p → next.view.preds m p ≡ pt.view.preds m p → next.view.ring m ≡ moved_back p (pt.view.ring m)
    → next.kernel.processes p ≡ Some (Alive (plain_process y)) → placed.processes p ≡ Some (with_queue y queue) → AreMessages placed.bag (next.view.queue m p) y.queue
    → length y.memory ≡ length x.memory → IsSent placed route → are_still says ≡ true
    → Acts b m pt l k p (Some (record { state = with_here (moved_round k p) p y; parts = map Part.Says says ++ routed route })) (Some (map rule.Says says ++ rule_routed route))
goes_on_acts b m pt next l placed k p x y queue says route s leads mirrors leaves known preds ring alive there messages memory sent still =
    let records : (q : Pid) → pid_eq p q ≡ false → (with_here (moved_round k p) p y).records q ≡ k.records q = λ q off. off_if (pid_eq p q) (Some (Record.Here (Resident.Process y))) (k.records q) off in
    record {
      state = with_here (moved_round k p) p y;
      says = says;
      route = Sends route;
      turn = refl;
      outcome = refl;
      next = next;
      after = leads;
      placed = placed;
      mirrors = mirrors;
      kernel = goes_stands b m (is_queue_of m p) p pt next l placed k (with_here (moved_round k p) p y) x y queue s.at leaves (record { here = refl; records = records; made = refl; preds = λ q off. refl })
          (λ q off. queue_of_others m p q off) (λ q. refl) (on_if (pid_eq p p) (Some (Record.Here (Resident.Process y))) (k.records p) (pid_eq-same p)) refl (ap (moved_back p) s.stands.ring ∙ sym ring)
          (inbox_stands m (is_queue_of m p) p pt next l placed k.inbox leaves refl s.stands.inbox) known preds refl alive there messages memory s.stands;
      leaves = leaves;
      sent = sent;
      still = still;
      over = NoneEnds refl (spared pt.kernel next.kernel p leaves.kernel.life (ap kernel.why_ended alive ∙ sym (ap kernel.why_ended s.at.alive)));
      count = refl;
      records = records;
    }

-- the messages of its queue are for it, and stand nowhere else
pub is_for : (s : OneKernel) (p : Pid) (ids : List MsgId) (i : MsgId) → Droppable s p ids → 1 ≤ times i ids → IsFor s p i
is_for s p [] i h least = absurd (omega (arith, least))
is_for s p (j ∷ js) i h least = elim (cases_Bool (id_eq i j)) [
  | inl same ↦ subst (IsFor s p) (sym (id_eq-is i j same)) h.0
  | inr apart ↦
      let e : times i (j ∷ js) ≡ 0 + times i js = ap (λ (c : Bool). (if c then 1 else 0) + times i js) apart in
      is_for s p js i h.2 (omega (arith, least, e))
]

right_elsewhere : (i : MsgId) (o : Option PlainMessage) (f : Spot → ℕ) (x y : Spot) → 1 ≤ f x → y ≢ x → StandsRight i o f → f y ≡ 0
right_elsewhere i o f x y least apart h = grind (arith, nat_tests, once_at)

pub queue_alone : (m : ℕ) (p : Pid) (s : OneKernel) (v : View) → ((i : MsgId) → StandsRight i (s.bag i) (standing v i)) → AreAlone (is_queue_of m p) v (v.queue m p)
queue_alone m p s v kept j least i spot off there = elim (cases_Bool (id_eq j i)) [
  | inl same ↦
      let some : standing v j spot ≡ standing v i spot = ap (λ (k : MsgId). standing v k spot) (id_eq-is j i same) in
      absurd (omega (arith, right_elsewhere j (s.bag j) (standing v j) (Queue m p) spot least apart (kept j), some, there))
  | inr away ↦ away
]
  where
    apart : spot ≢ Queue m p
    apart e = false≢true (sym off ∙ ap (is_queue_of m p) e ∙ ap (λ (c : Bool). c && pid_eq p p) (eq_self m) ∙ pid_eq-same p)
