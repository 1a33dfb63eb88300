-- How much a step of the kernel without machines raises its counts, and which processes there are behind it: what processes say.
use Rattle.dm_law_mirror.proofs.Names.{◌≡◌, ℕ, ◌+◌, ◌≤◌, Bool, true, refl, ap, ◌∙◌, subst, is_some, arith, length, if◌then◌else◌, Option, Some, Pid, pid_eq, MsgId, Label, Called, Reply, Why, bind, PlainProcess, nat_tests, Life, Alive}
use Rattle.dm_law_mirror.proofs.Names.{Switchboard, Manager, OneKernel, with_process, without_message, pid_eq-is, bind-is, when-is, Nexts, nexts, Completing, completing, at_hand-is, Ended, none_some}
use Rattle.dm_law_always.proofs.Names.{with_sent}
use Rattle.dm_onekernel.specs.Receiving as receiving
use Rattle.dm_onekernel.specs.Step as step

-- how many messages a process has sent
abbrev pub sent_of : Option Life → ℕ
sent_of (Some (Alive x)) = x.sent
sent_of _ = 0

-- no count is raised by more than k
pub record Within (k : ℕ) (s t : OneKernel) : Type 0 where
  pub sent : (p : Pid) → sent_of (t.processes p) ≤ sent_of (s.processes p) + k
  pub board : t.switchboard.sent ≤ s.switchboard.sent + k
  pub manager : t.manager.sent ≤ s.manager.sent + k
  pub children : length t.manager.children ≤ length s.manager.children + k
  pub made : (h : ℕ) → t.made h ≤ s.made h + k
  pub names : length t.switchboard.names ≤ length s.switchboard.names + k

-- nobody was made
pub record Stays (s t : OneKernel) : Type 0 where
  pub machines : t.machines ≡ s.machines
  pub made : (h : ℕ) → t.made h ≡ s.made h
  pub lives : (p : Pid) → is_some (t.processes p) ≡ is_some (s.processes p)

pub record Raises (k : ℕ) (s t : OneKernel) : Type 0 where
  pub within : Within k s t
  pub stays : Stays s t

-- nothing but the bag changes
pub bag_raises : (s t : OneKernel) → ((p : Pid) → t.processes p ≡ s.processes p) → ((h : ℕ) → t.made h ≡ s.made h) → t.switchboard ≡ s.switchboard → t.manager ≡ s.manager → t.machines ≡ s.machines → Raises 0 s t
bag_raises s t processes made board manager machines =
    let board_ = ap (λ (v : Switchboard). v.sent) board in
    let names_ = ap (λ (v : Switchboard). length v.names) board in
    let manager_ = ap (λ (v : Manager). v.sent) manager in
    let children = ap (λ (v : Manager). length v.children) manager in
    record {
      within = record {
        sent = λ p. let e = ap sent_of (processes p) in omega (arith, e);
        board = omega (arith, board_);
        names = omega (arith, names_);
        manager = omega (arith, manager_);
        children = omega (arith, children);
        made = λ h. let e = made h in omega (arith, e);
      };
      stays = record { machines = machines; made = made; lives = λ p. ap is_some (processes p) };
    }

-- a process is set
set_sent : (s : OneKernel) (p q : Pid) (life : Life) (k : ℕ) (c : Bool) → pid_eq p q ≡ c → sent_of (Some life) ≤ sent_of (s.processes p) + k → sent_of (if c then Some life else s.processes q) ≤ sent_of (s.processes q) + k
set_sent s p q life k c e le = grind (arith, nat_tests, pid_eq-is)

set_lives : (s : OneKernel) (p q : Pid) (life : Life) (c : Bool) → pid_eq p q ≡ c → is_some (s.processes p) ≡ true → is_some (if c then Some life else s.processes q) ≡ is_some (s.processes q)
set_lives s p q life c e there = grind (arith, nat_tests, pid_eq-is)

pub set_raises : (s t : OneKernel) (p : Pid) (x : PlainProcess) (life : Life) (k : ℕ) → s.processes p ≡ Some (Alive x) → sent_of (Some life) ≤ x.sent + k → ((q : Pid) → t.processes q ≡ (with_process s p life).processes q) → ((h : ℕ) → t.made h ≡ s.made h)
    → t.switchboard ≡ s.switchboard → t.manager ≡ s.manager → t.machines ≡ s.machines → Raises k s t
set_raises s t p x life k is le processes made board manager machines =
    let board_ = ap (λ (v : Switchboard). v.sent) board in
    let names_ = ap (λ (v : Switchboard). length v.names) board in
    let manager_ = ap (λ (v : Manager). v.sent) manager in
    let children = ap (λ (v : Manager). length v.children) manager in
    let mine : sent_of (s.processes p) ≡ x.sent = ap sent_of is in
    record {
      within = record {
        sent = λ q. let e = ap sent_of (processes q) in let f = set_sent s p q life k (pid_eq p q) refl (omega (arith, mine, le)) in omega (arith, e, f);
        board = omega (arith, board_);
        names = omega (arith, names_);
        manager = omega (arith, manager_);
        children = omega (arith, children);
        made = λ h. let e = made h in omega (arith, e);
      };
      stays = record { machines = machines; made = made; lives = λ q. ap is_some (processes q) ∙ set_lives s p q life (pid_eq p q) refl (ap is_some is) };
    }

goes_raises : (s t : OneKernel) (p : Pid) (x y : PlainProcess) → step.goes_on s p y ≡ t → s.processes p ≡ Some (Alive x) → y.sent ≡ x.sent → Raises 0 s t
goes_raises s t p x y e is sent = subst (Raises 0 s) e (set_raises s (step.goes_on s p y) p x (Alive y) 0 is (omega (arith, sent)) (λ q. refl) (λ h. refl) refl refl refl)

pub ran_raises : (s t : OneKernel) (p : Pid) (k : ℕ) → step.step s (Label.Ran p k) ≡ Some t → Raises 0 s t
ran_raises s t p k is =
    let (x, running, rest) = bind-is (step.running s p) (λ v. bind (step.plain_steps k (step.machine_of v)) (λ m. Some (step.goes_on s p (step.with_machine v m)))) t is in
    let (m, plain, last) = bind-is (step.plain_steps k (step.machine_of x)) (λ m. Some (step.goes_on s p (step.with_machine x m))) t rest in
    let runs : s.processes p ≡ Some (Alive x) = grind (arith, nat_tests, at_hand-is) in
    goes_raises s t p x (step.with_machine x m) (let e : step.goes_on s p (step.with_machine x m) ≡ t = cc in e) runs refl

replies_raise : (s t : OneKernel) (p : Pid) (n : ℕ) (c : Reply) (next : step.Trap) → Nexts s p next → step.replies s p n c next ≡ Some t → Raises 0 s t
replies_raise s t p n c (step.Calls number (Called.Replies reply y)) w is =
    let (z, sent, pending, counted) = w.counts in
    goes_raises s t p w.x y (when-is _ (step.goes_on s p y) t is).1 w.is.alive (counted.0 ∙ sent)
replies_raise s t p n c _ w is = none_some t is

sends_raise : (s t : OneKernel) (p : Pid) (id : MsgId) (next : step.Trap) → Nexts s p next → step.sends s p id next ≡ Some t → Raises 1 s t
sends_raise s t p id (step.Calls number (Called.Sends m y)) w is =
    let (z, sent, pending, counted) = w.counts in
    let k = when-is _ (with_sent (step.goes_on s p y) (Some m)) t is in
    let count = counted.count in
    subst (Raises 1 s) k.1 (set_raises s (with_sent (step.goes_on s p y) (Some m)) p w.x (Alive y) 1 w.is.alive (omega (arith, count, sent)) (λ q. refl) (λ h. refl) refl refl refl)
sends_raise s t p id _ w is = none_some t is

waits_raise : (s t : OneKernel) (p : Pid) (next : step.Trap) → Nexts s p next → step.waits s p next ≡ Some t → Raises 0 s t
waits_raise s t p (step.Calls number (Called.Waits y)) w is =
    let (z, sent, pending, counted) = w.counts in
    goes_raises s t p w.x y (let e : step.goes_on s p y ≡ t = cc in e) w.is.alive (counted.0 ∙ sent)
waits_raise s t p _ w is = none_some t is

outputs_raise : (s t : OneKernel) (p : Pid) (word : ℕ) (next : step.Trap) → Nexts s p next → step.outputs s p word next ≡ Some t → Raises 0 s t
outputs_raise s t p word (step.Calls number (Called.Outputs put y)) w is =
    let (z, sent, pending, counted) = w.counts in
    goes_raises s t p w.x y (when-is _ (step.goes_on s p y) t is).1 w.is.alive (counted.0 ∙ sent)
outputs_raise s t p word _ w is = none_some t is

pub end_raises_of : (s t : OneKernel) (p : Pid) (x : PlainProcess) (y : Why) → with_process s p (Ended y) ≡ t → s.processes p ≡ Some (Alive x) → Raises 0 s t
end_raises_of s t p x y e is = subst (Raises 0 s) e (set_raises s (with_process s p (Ended y)) p x (Ended y) 0 is (omega arith) (λ q. refl) (λ h. refl) refl refl refl)

ends_raise : (s t : OneKernel) (p : Pid) (y : Why) (next : step.Trap) → Nexts s p next → step.ends s p y next ≡ Some t → Raises 0 s t
ends_raise s t p y (step.Calls number (Called.Ends because)) w is = let k = when-is _ (with_process s p (Ended y)) t is in end_raises_of s t p w.x y k.1 w.is.alive
ends_raise s t p y (step.Faults fault) w is = let k = when-is _ (with_process s p (Ended y)) t is in end_raises_of s t p w.x y k.1 w.is.alive
ends_raise s t p y _ w is = none_some t is

pub call_raises : (s t : OneKernel) (p : Pid) (n : ℕ) (c : Reply) → step.step s (Label.Call p n c) ≡ Some t → Raises 0 s t
call_raises s t p n c is = let (x, next, rest) = bind-is (step.next_trap s p) (step.replies s p n c) t is in replies_raise s t p n c x (nexts s p x next) rest

pub send_raises : (s t : OneKernel) (p : Pid) (id : MsgId) → step.step s (Label.Send p id) ≡ Some t → Raises 1 s t
send_raises s t p id is = let (x, next, rest) = bind-is (step.next_trap s p) (step.sends s p id) t is in sends_raise s t p id x (nexts s p x next) rest

pub wait_raises : (s t : OneKernel) (p : Pid) → step.step s (Label.Wait p) ≡ Some t → Raises 0 s t
wait_raises s t p is = let (x, next, rest) = bind-is (step.next_trap s p) (step.waits s p) t is in waits_raise s t p x (nexts s p x next) rest

pub out_raises : (s t : OneKernel) (p : Pid) (w : ℕ) → step.step s (Label.Out p w) ≡ Some t → Raises 0 s t
out_raises s t p w is = let (x, next, rest) = bind-is (step.next_trap s p) (step.outputs s p w) t is in outputs_raise s t p w x (nexts s p x next) rest

pub end_raises : (s t : OneKernel) (p : Pid) (y : Why) → step.step s (Label.End p y) ≡ Some t → Raises 0 s t
end_raises s t p y is = let (x, next, rest) = bind-is (step.next_trap s p) (step.ends s p y) t is in ends_raise s t p y x (nexts s p x next) rest

-- a receive that ends
receives_raise : (s t : OneKernel) (p : Pid) (id : MsgId) (c : receiving.Completed) → Completing s p id c → step.receives s p id c ≡ Some t → Raises 0 s t
receives_raise s t p id (receiving.Receives y) w is =
    let v = step.goes_on (without_message s id) p y in
    subst (Raises 0 s) (cc) (set_raises s v p w.x (Alive y) 0 w.alive (omega (arith, w.is.0)) (λ q. refl) (λ h. refl) refl refl refl)
receives_raise s t p id (receiving.Refuses reply y) w is = none_some t is

refuses_raise : (s t : OneKernel) (p : Pid) (id : MsgId) (reply : Reply) (c : receiving.Completed) → Completing s p id c → step.refuses s p reply c ≡ Some t → Raises 0 s t
refuses_raise s t p id reply (receiving.Receives y) w is = none_some t is
refuses_raise s t p id reply (receiving.Refuses d y) w is = let k = when-is _ (step.goes_on s p y) t is in goes_raises s t p w.x y k.1 w.alive w.is.0

pub receive_raises : (s t : OneKernel) (p : Pid) (id : MsgId) → step.step s (Label.Receive p id) ≡ Some t → Raises 0 s t
receive_raises s t p id is = let (x, c, rest) = bind-is (step.completing s p id) (step.receives s p id) t is in receives_raise s t p id x (completing s p id x c) rest

pub refuse_raises : (s t : OneKernel) (p : Pid) (id : MsgId) (d : Reply) → step.step s (Label.Refuse p id d) ≡ Some t → Raises 0 s t
refuse_raises s t p id d is = let (x, c, rest) = bind-is (step.completing s p id) (step.refuses s p d) t is in refuses_raise s t p id d x (completing s p id x c) rest
