-- Each step of a kernel without machines is one of its twin, under the names there.
use Rattle.dm_law_one.proofs.Names.{◌≡◌, ℕ, ◌+◌, ◌==◌, ◌&&◌, Bool, true, false, refl, ap, ◌∙◌, sym, subst, nat_lt, nat_le, arith, nat_tests, if◌then◌else◌, List, slice_get, Option, None, Some, Pid, pid_of, pid_eq, MsgId, id_eq, answer_id, answer_to, option_map, PlainLink, PlainMessage, PlainWhat}
use Rattle.dm_law_one.proofs.Names.{Replies, Sends, Waits, Outputs, Ends, PlainProcess, Life, Alive, Ended, MoveNote, OneKernel, with_process, with_sent, with_note, without_note, without_message, bind, when, serves, follows_request, gone_what, begun, BootImage, first_number}
use Rattle.dm_law_one.proofs.Names.{Label, Reply, Why, Outcome, manager}
use Rattle.dm_law_one.proofs.Facts.{none_some}
use Rattle.dm_law_one.proofs.Equal.{id_eq-is, id_eq-same, pid_eq-is}
use Rattle.dm_law_one.proofs.Steps.{bind-is, when-is}
use Rattle.dm_law_one.proofs.Servers.{note-is}
use Rattle.dm_law_one.proofs.Sound.{Sound}
use Rattle.dm_onekernel.specs.Codes.{reply_eq, why_eq}
use Rattle.dm_onekernel.specs.Receiving as receiving
use Rattle.dm_onekernel.specs.Service as service
use Rattle.dm_onekernel.specs.Step as kernel
use Rattle.dm_law_always.proofs.Fits.Creates.{fresh_child}
use Rattle.dm_law_alike.specs.Alike.{Renaming, KeepsOrder, Stands, under, TwinProcess, TwinLife, TwinNote, IsUnmade, Twins, Says, Twin}
use Rattle.dm_law_alike.proofs.Numbers.{some_same, answer_stands}
use Rattle.dm_law_alike.proofs.Ways.{twin_set, twin_out, twin_put, twin_note, twin_unnote, twin_made}
use Rattle.dm_law_alike.proofs.Calling.{TwinTrap}
use Rattle.dm_law_alike.proofs.Serving.{KernelTwin, kernel_twin, twin_running, twin_trap, twin_hand, twin_completing, twin_serves, TwinCompleted}
use Rattle.dm_law_alike.proofs.Taking.{twin_takes, is_told}

-- what tells the manager of its own requests is under its name
abbrev pub Told : OneKernel → Type 0
Told s = (i : MsgId) (m : PlainMessage) → s.bag i ≡ Some m → is_told m.what ≡ true → i.from ≡ manager

-- a step of the twin, from where it leads
pub twin_of : (r : Renaming) (t u : OneKernel) (l k : Label) → Says r l k → KernelTwin r u (kernel.step t k) → Twin r t l u
twin_of r t u l k says h = record { label = k; kernel = h.kernel; says = says; steps = h.is; twins = h.twins }

moved : (r : Renaming) (u : OneKernel) (o v : Option OneKernel) → v ≡ o → KernelTwin r u o → KernelTwin r u v
moved r u o v e h = subst (KernelTwin r u) (sym e) h

when_twin : (r : Renaming) (b c : Bool) (v w u : OneKernel) → c ≡ b → Twins r v w → when b v ≡ Some u → KernelTwin r u (when c w)
when_twin r true true v w u e h is = kernel_twin r v u w h is
when_twin r false c v w u e h is = none_some u is
when_twin r true false v w u e h is = absurd (cc)

ran_process : (f : ℕ → Option ℕ) (x y : PlainProcess) (m : kernel.Machine) → TwinProcess f x y → TwinProcess f (kernel.with_machine x m) (kernel.with_machine y m)
ran_process f x y m h = record { regs = refl; memory = refl; links = h.links; status = h.status; stopped = h.stopped; sent = h.sent }

ran_twin : (r : Renaming) (s t u : OneKernel) (p : Pid) (k : ℕ) → Twins r s t → kernel.step s (Label.Ran p k) ≡ Some u → KernelTwin r u (kernel.step t (Label.Ran p k))
ran_twin r s t u p k h e =
    let (x, runs, rest) = bind-is (kernel.running s p) (λ (w : PlainProcess). bind (kernel.plain_steps k (kernel.machine_of w)) (λ (m : kernel.Machine). Some (kernel.goes_on s p (kernel.with_machine w m)))) u e in
    let (m, plain, last) = bind-is (kernel.plain_steps k (kernel.machine_of x)) (λ (m : kernel.Machine). Some (kernel.goes_on s p (kernel.with_machine x m))) u rest in
    let y = twin_running r s t p x h runs in
    let machine : kernel.machine_of y.process ≡ kernel.machine_of x = λ i. record { regs = y.twin.regs i; bytes = y.twin.memory i } in
    let there : kernel.plain_steps k (kernel.machine_of y.process) ≡ Some m = ap (kernel.plain_steps k) machine ∙ plain in
    moved r u (Some (kernel.goes_on t p (kernel.with_machine y.process m))) (kernel.step t (Label.Ran p k))
    (ap (λ o. bind o (λ (w : PlainProcess). bind (kernel.plain_steps k (kernel.machine_of w)) (λ (n : kernel.Machine). Some (kernel.goes_on t p (kernel.with_machine w n))))) y.is
    ∙ ap (λ o. bind o (λ (n : kernel.Machine). Some (kernel.goes_on t p (kernel.with_machine y.process n)))) there)
    (kernel_twin r (kernel.goes_on s p (kernel.with_machine x m)) u (kernel.goes_on t p (kernel.with_machine y.process m))
    (twin_set r s t p (Alive (kernel.with_machine x m)) (Alive (kernel.with_machine y.process m)) (ran_process (r p) x y.process m y.twin) h) last)

replies_twin : (r : Renaming) (s t u : OneKernel) (p : Pid) (n : ℕ) (c : Reply) (a b : kernel.Trap) → Twins r s t → TwinTrap r p a b → kernel.replies s p n c a ≡ Some u → KernelTwin r u (kernel.replies t p n c b)
replies_twin r s t u p n c (kernel.Calls k (Replies d x)) (kernel.Calls o (Replies g y)) h twin e =
    when_twin r ((n == k) && reply_eq c d) ((n == o) && reply_eq c g) (kernel.goes_on s p x) (kernel.goes_on t p y) u
    (ap (λ v. (n == v) && reply_eq c g) twin.0 ∙ ap (λ v. (n == k) && reply_eq c v) twin.1.0) (twin_set r s t p (Alive x) (Alive y) twin.1.1 h) e
replies_twin r s t u p n c (kernel.Calls k (Replies d x)) (kernel.Calls o _) h twin e = absurd twin.1
replies_twin r s t u p n c (kernel.Calls k (Replies d x)) (kernel.Faults f) h twin e = absurd twin
replies_twin r s t u p n c _ b h twin e = none_some u e

waits_twin : (r : Renaming) (s t u : OneKernel) (p : Pid) (a b : kernel.Trap) → Twins r s t → TwinTrap r p a b → kernel.waits s p a ≡ Some u → KernelTwin r u (kernel.waits t p b)
waits_twin r s t u p (kernel.Calls k (Waits x)) (kernel.Calls o (Waits y)) h twin e = kernel_twin r (kernel.goes_on s p x) u (kernel.goes_on t p y) (twin_set r s t p (Alive x) (Alive y) twin.1 h) e
waits_twin r s t u p (kernel.Calls k (Waits x)) (kernel.Calls o _) h twin e = absurd twin.1
waits_twin r s t u p (kernel.Calls k (Waits x)) (kernel.Faults f) h twin e = absurd twin
waits_twin r s t u p _ b h twin e = none_some u e

outputs_twin : (r : Renaming) (s t u : OneKernel) (p : Pid) (w : ℕ) (a b : kernel.Trap) → Twins r s t → TwinTrap r p a b → kernel.outputs s p w a ≡ Some u → KernelTwin r u (kernel.outputs t p w b)
outputs_twin r s t u p w (kernel.Calls k (Outputs v x)) (kernel.Calls o (Outputs z y)) h twin e =
    when_twin r (w == v) (w == z) (kernel.goes_on s p x) (kernel.goes_on t p y) u (ap (λ q. w == q) twin.1.0) (twin_set r s t p (Alive x) (Alive y) twin.1.1 h) e
outputs_twin r s t u p w (kernel.Calls k (Outputs v x)) (kernel.Calls o _) h twin e = absurd twin.1
outputs_twin r s t u p w (kernel.Calls k (Outputs v x)) (kernel.Faults f) h twin e = absurd twin
outputs_twin r s t u p w _ b h twin e = none_some u e

ends_twin : (r : Renaming) (s t u : OneKernel) (p : Pid) (y : Why) (a b : kernel.Trap) → Twins r s t → TwinTrap r p a b → kernel.ends s p y a ≡ Some u → KernelTwin r u (kernel.ends t p y b)
ends_twin r s t u p y (kernel.Calls k (Ends v)) (kernel.Calls o (Ends z)) h twin e =
    when_twin r (why_eq y v) (why_eq y z) (with_process s p (Ended y)) (with_process t p (Ended y)) u (ap (why_eq y) twin.1) (twin_set r s t p (Ended y) (Ended y) refl h) e
ends_twin r s t u p y (kernel.Faults v) (kernel.Faults z) h twin e =
    when_twin r (why_eq y (Why.Fault v)) (why_eq y (Why.Fault z)) (with_process s p (Ended y)) (with_process t p (Ended y)) u (ap (λ f. why_eq y (Why.Fault f)) twin) (twin_set r s t p (Ended y) (Ended y) refl h) e
ends_twin r s t u p y (kernel.Calls k (Ends v)) (kernel.Calls o _) h twin e = absurd twin.1
ends_twin r s t u p y (kernel.Calls k (Ends v)) (kernel.Faults f) h twin e = absurd twin
ends_twin r s t u p y (kernel.Faults v) (kernel.Calls o c) h twin e = absurd twin
ends_twin r s t u p y _ b h twin e = none_some u e

sends_twin : (r : Renaming) (s t u : OneKernel) (p : Pid) (id : MsgId) (a b : kernel.Trap) → KeepsOrder r → Twins r s t → TwinTrap r p a b → kernel.next_trap t p ≡ Some b → kernel.sends s p id a ≡ Some u → Twin r t (Label.Send p id) u
sends_twin r s t u p id (kernel.Calls k (Sends m x)) (kernel.Calls o (Sends n y)) keeps h twin next e =
    let (same, last) = when-is (id_eq id m.id) (with_sent (kernel.goes_on s p x) (Some m)) u e in
    let st : Stands r id n.id = subst (λ v. Stands r v n.id) (sym (id_eq-is id m.id same)) twin.1.0 in
    let set = twin_set r s t p (Alive x) (Alive y) twin.1.2 h in
    let put = subst (λ (v : PlainMessage). Twins r (with_sent (kernel.goes_on s p x) (Some m)) (with_sent (kernel.goes_on t p y) (Some v))) (sym twin.1.1) (twin_put r (kernel.goes_on s p x) (kernel.goes_on t p y) m n.id keeps twin.1.0 set) in
    record {
      label = Label.Send p n.id;
      kernel = with_sent (kernel.goes_on t p y) (Some n);
      says = (refl, st);
      steps = ap (λ v. bind v (kernel.sends t p n.id)) next ∙ ap (λ c. when c (with_sent (kernel.goes_on t p y) (Some n))) (id_eq-same n.id);
      twins = subst (λ v. Twins r v (with_sent (kernel.goes_on t p y) (Some n))) last put;
    }
sends_twin r s t u p id (kernel.Calls k (Sends m x)) (kernel.Calls o _) keeps h twin next e = absurd twin.1
sends_twin r s t u p id (kernel.Calls k (Sends m x)) (kernel.Faults f) keeps h twin next e = absurd twin
sends_twin r s t u p id _ b keeps h twin next e = none_some u e

receives_twin : (r : Renaming) (s t u : OneKernel) (p : Pid) (i j : MsgId) (a b : receiving.Completed) → KeepsOrder r → Stands r i j → Twins r s t → TwinCompleted (r p) a b → kernel.receives s p i a ≡ Some u → KernelTwin r u (kernel.receives t p j b)
receives_twin r s t u p i j (receiving.Receives x) (receiving.Receives y) keeps st h twin e =
    kernel_twin r (kernel.goes_on (without_message s i) p x) u (kernel.goes_on (without_message t j) p y) (twin_set r (without_message s i) (without_message t j) p (Alive x) (Alive y) twin (twin_out r s t i j keeps st h)) e
receives_twin r s t u p i j (receiving.Receives x) (receiving.Refuses d y) keeps st h twin e = absurd twin
receives_twin r s t u p i j (receiving.Refuses c x) b keeps st h twin e = none_some u e

refuses_twin : (r : Renaming) (s t u : OneKernel) (p : Pid) (c : Reply) (a b : receiving.Completed) → Twins r s t → TwinCompleted (r p) a b → kernel.refuses s p c a ≡ Some u → KernelTwin r u (kernel.refuses t p c b)
refuses_twin r s t u p c (receiving.Refuses d x) (receiving.Refuses g y) h twin e =
    when_twin r (reply_eq c d) (reply_eq c g) (kernel.goes_on s p x) (kernel.goes_on t p y) u (ap (reply_eq c) twin.0) (twin_set r s t p (Alive x) (Alive y) twin.1 h) e
refuses_twin r s t u p c (receiving.Refuses d x) (receiving.Receives y) h twin e = absurd twin
refuses_twin r s t u p c (receiving.Receives x) b h twin e = none_some u e

-- a message of the bag, and the one that stands for it
pub record There (r : Renaming) (t : OneKernel) (i : MsgId) (m : PlainMessage) : Type 0 where
  pub name : MsgId
  pub stands : Stands r i name
  pub is : t.bag name ≡ Some (under name m)

pub there : (r : Renaming) (s t : OneKernel) (i : MsgId) (m : PlainMessage) → Twins r s t → s.bag i ≡ Some m → There r t i m
there r s t i m h is = let (j, st) = h.known i m is in record { name = j; stands = st; is = h.bag i j st ∙ ap (option_map (under j)) is }

in_bag_of : (s : OneKernel) (p : Pid) (i : MsgId) (c : receiving.Completed) → kernel.completing s p i ≡ Some c → (m : PlainMessage) × (s.bag i ≡ Some m)
in_bag_of s p i c e =
    let (x, hand, rest) = bind-is (kernel.at_hand s p) (λ (v : PlainProcess). bind (s.bag i) (receiving.completes_with p v)) c e in
    let (m, is, last) = bind-is (s.bag i) (receiving.completes_with p x) c rest in
    (m, is)

-- why a process ended, there and here
why_of : (p : Pid) (f : ℕ → Option ℕ) (a b : Option Life) (y : Why) → TwinLife p f a b → kernel.why_ended a ≡ Some y → kernel.why_ended b ≡ Some y
why_of p f (Some (Ended v)) (Some (Ended w)) y h e = ap Some h ∙ e
why_of p f (Some (Ended v)) (Some (Alive z)) y h e = absurd h
why_of p f (Some (Ended v)) None y h e = absurd h
why_of p f (Some (Alive z)) b y h e = none_some y e
why_of p f None b y h e = none_some y e

answer_twin : (r : Renaming) (s t : OneKernel) (i j : MsgId) (m : PlainMessage) (w : PlainWhat) → KeepsOrder r → Stands r i j → m.id ≡ i → Twins r s t → Twins r (with_sent s (Some (answer_to m w))) (with_sent t (Some (answer_to (under j m) w)))
answer_twin r s t i j m w keeps st name h = twin_put r s t (answer_to m w) (answer_id j) keeps (answer_stands r m.id j (subst (λ v. Stands r v j) (sym name) st)) h

-- a process is made there as here
unmade_of : (p : Pid) (f : ℕ → Option ℕ) (a b : Option Life) → TwinLife p f a b → a ≡ None → IsUnmade p f
unmade_of p f None None h e = h
unmade_of p f None (Some b) h e = absurd h
unmade_of p f (Some a) b h e = absurd (cc)

begun_twin : (r : Renaming) (s t : OneKernel) (p : Pid) (image : BootImage) (links : List PlainLink) → IsUnmade p (r p) → nat_le 3 p.num ≡ true → TwinProcess (r p) (begun s.format image links) (begun s.format image links)
begun_twin r s t p image links unmade least =
    record { regs = refl; memory = refl; links = refl; status = refl; stopped = refl; sent = λ k. let z : 0 + k ≡ k = omega arith in ap (r p) z ∙ unmade least k ∙ ap Some (sym z) }

creates_twin : (r : Renaming) (c e : MsgId → ℕ) (s t u : OneKernel) (i j : MsgId) (m : PlainMessage) (child : Pid) (links : List PlainLink) (image : BootImage) → KeepsOrder r → Stands r i j → m.id ≡ i → Sound c e s → Twins r s t
    → service.creates_of s i m child links image ≡ Some u → KernelTwin r u (service.creates_of t j (under j m) child links image)
creates_twin r c e s t u i j m child links image keeps st name sound h is =
    let (test, last) = when-is (service.is_kernel s m.to && pid_eq child (pid_of m.to.home (first_number + s.made m.to.home))) (with_sent (service.with_created (without_message s i) child image links) (Some (answer_to m (PlainWhat.Created child)))) u is in
    let named : pid_eq child (pid_of m.to.home (first_number + s.made m.to.home)) ≡ true = grind (arith, nat_tests) in
    let child_is : child ≡ pid_of m.to.home (first_number + s.made m.to.home) = pid_eq-is child (pid_of m.to.home (first_number + s.made m.to.home)) named in
    let fresh = fresh_child c e s child m.to.home child_is sound in
    let least : nat_le 3 child.num ≡ true = ap (λ (v : Pid). nat_le 3 v.num) child_is ∙ (let z : nat_le 3 (first_number + s.made m.to.home) ≡ true = grind (arith, nat_tests) in z) in
    let unmade = unmade_of child (r child) (s.processes child) (t.processes child) (h.processes child) fresh in
    let out = twin_out r s t i j keeps st h in
    let begun_ = begun_twin r s t child image links unmade least in
    let set : Twins r (with_process (without_message s i) child (Alive (begun s.format image links))) (with_process (without_message t j) child (Alive (begun t.format image links))) =
    subst (λ v. Twins r (with_process (without_message s i) child (Alive (begun s.format image links))) (with_process (without_message t j) child (Alive (begun v image links)))) (sym h.format)
    (twin_set r (without_message s i) (without_message t j) child (Alive (begun s.format image links)) (Alive (begun s.format image links)) begun_ out) in
    let made = twin_made r (with_process (without_message s i) child (Alive (begun s.format image links))) (with_process (without_message t j) child (Alive (begun t.format image links))) (λ n. if child.home == n then 1 else 0) set in
    let put = answer_twin r (service.with_created (without_message s i) child image links) (service.with_created (without_message t j) child image links) i j m (PlainWhat.Created child) keeps st name made in
    when_twin r (service.is_kernel s m.to && pid_eq child (pid_of m.to.home (first_number + s.made m.to.home))) (service.is_kernel t m.to && pid_eq child (pid_of m.to.home (first_number + t.made m.to.home)))
    (with_sent (service.with_created (without_message s i) child image links) (Some (answer_to m (PlainWhat.Created child))))
    (with_sent (service.with_created (without_message t j) child image links) (Some (answer_to (under j m) (PlainWhat.Created child)))) u
    (ap (λ v. ((m.to.num == 0) && nat_lt m.to.home v) && pid_eq child (pid_of m.to.home (first_number + t.made m.to.home))) h.machines
    ∙ ap (λ v. service.is_kernel s m.to && pid_eq child (pid_of m.to.home (first_number + v))) (h.made m.to.home)) put is

creates_by : (r : Renaming) (c e : MsgId → ℕ) (s t u : OneKernel) (i j : MsgId) (m : PlainMessage) (child : Pid) (w : PlainWhat) → KeepsOrder r → Stands r i j → m.id ≡ i → Sound c e s → Twins r s t
    → service.creates s i m child w ≡ Some u → KernelTwin r u (service.creates t j (under j m) child w)
creates_by r c e s t u i j m child (PlainWhat.Create image links) keeps st name sound h is =
    let (x, there_, last) = bind-is (slice_get s.images image) (service.creates_of s i m child links) u is in
    moved r u (service.creates_of t j (under j m) child links x) (bind (slice_get t.images image) (service.creates_of t j (under j m) child links))
    (ap (λ v. bind (slice_get v image) (service.creates_of t j (under j m) child links)) h.images ∙ ap (λ o. bind o (service.creates_of t j (under j m) child links)) there_)
    (creates_twin r c e s t u i j m child links x keeps st name sound h last)
creates_by r c e s t u i j m child _ keeps st name sound h is = none_some u is

no_room_by : (r : Renaming) (s t u : OneKernel) (i j : MsgId) (m : PlainMessage) (w : PlainWhat) → KeepsOrder r → Stands r i j → m.id ≡ i → Twins r s t → service.has_no_room s i m w ≡ Some u → KernelTwin r u (service.has_no_room t j (under j m) w)
no_room_by r s t u i j m (PlainWhat.Create image links) keeps st name h is =
    when_twin r (service.is_kernel s m.to) (service.is_kernel t m.to) (with_sent (without_message s i) (Some (answer_to m PlainWhat.NoRoom))) (with_sent (without_message t j) (Some (answer_to (under j m) PlainWhat.NoRoom))) u
    (ap (λ v. (m.to.num == 0) && nat_lt m.to.home v) h.machines) (answer_twin r (without_message s i) (without_message t j) i j m PlainWhat.NoRoom keeps st name (twin_out r s t i j keeps st h)) is
no_room_by r s t u i j m _ keeps st name h is = none_some u is

asked_by : (r : Renaming) (s t u : OneKernel) (i j : MsgId) (m : PlainMessage) (w : PlainWhat) → KeepsOrder r → Stands r i j → Twins r s t → follows_request s i m w ≡ Some u → KernelTwin r u (follows_request t j (under j m) w)
asked_by r s t u i j m (PlainWhat.Move machine) keeps st h is =
    kernel_twin r (with_note (without_message s i) m.to (record { id = i; asker = m.sender })) u (with_note (without_message t j) m.to (record { id = j; asker = m.sender }))
    (twin_note r (without_message s i) (without_message t j) m.to (record { id = i; asker = m.sender }) (record { id = j; asker = m.sender }) keeps st refl (twin_out r s t i j keeps st h)) is
asked_by r s t u i j m _ keeps st h is = none_some u is

gone_by : (r : Renaming) (s t u : OneKernel) (i j : MsgId) (m : PlainMessage) (o : Option PlainWhat) → KeepsOrder r → Stands r i j → m.id ≡ i → Twins r s t → bind o (λ w. Some (with_sent (without_message s i) (Some (answer_to m w)))) ≡ Some u
    → KernelTwin r u (bind o (λ w. Some (with_sent (without_message t j) (Some (answer_to (under j m) w)))))
gone_by r s t u i j m (Some w) keeps st name h is =
    kernel_twin r (with_sent (without_message s i) (Some (answer_to m w))) u (with_sent (without_message t j) (Some (answer_to (under j m) w))) (answer_twin r (without_message s i) (without_message t j) i j m w keeps st name (twin_out r s t i j keeps st h)) is
gone_by r s t u i j m None keeps st name h is = none_some u is

-- what a process follows there
pub record NoteThere (r : Renaming) (n : MoveNote) (o : Option MoveNote) : Type 0 where
  pub note : MoveNote
  pub is : o ≡ Some note
  pub stands : Stands r n.id note.id
  pub asker : note.asker ≡ n.asker

note_of : (r : Renaming) (a b : Option MoveNote) (n : MoveNote) → TwinNote r a b → a ≡ Some n → NoteThere r n b
note_of r (Some v) (Some w) n h e = let f : v ≡ n = some_same v n e in subst (λ (q : MoveNote). NoteThere r q (Some w)) f (record { note = w; is = refl; stands = h.0; asker = h.1 })
note_of r (Some v) None n h e = absurd h
note_of r None b n h e = none_some n e

ended_twin : (r : Renaming) (s t : OneKernel) (i j : MsgId) (p : Pid) (n o : MoveNote) (outcome : Outcome) → KeepsOrder r → Stands r i j → o.asker ≡ n.asker → Twins r s t → Twins r (service.move_ended s i p n outcome) (service.move_ended t j p o outcome)
ended_twin r s t i j p n o outcome keeps st asker h =
    let answer : PlainMessage = record { id = answer_id i; to = n.asker; sender = p; what = PlainWhat.Moved outcome } in
    subst (λ v. Twins r (service.move_ended s i p n outcome) (with_sent (without_note t p j) (Some (record { id = answer_id j; to = v; sender = p; what = PlainWhat.Moved outcome })))) (sym asker)
    (twin_put r (without_note s p i) (without_note t p j) answer (answer_id j) keeps (answer_stands r i j st) (twin_unnote r s t p i j keeps st h))

ends_by : (r : Renaming) (s t u : OneKernel) (i j : MsgId) (p : Pid) (n o : MoveNote) (outcome : Outcome) → KeepsOrder r → Stands r i j → o.asker ≡ n.asker → Twins r s t → service.ends_move s i p n outcome ≡ Some u → KernelTwin r u (service.ends_move t j p o outcome)
ends_by r s t u i j p n o Outcome.Done keeps st asker h is = kernel_twin r (service.move_ended s i p n Outcome.Done) u (service.move_ended t j p o Outcome.Done) (ended_twin r s t i j p n o Outcome.Done keeps st asker h) is
ends_by r s t u i j p n o Outcome.Stayed keeps st asker h is = kernel_twin r (service.move_ended s i p n Outcome.Stayed) u (service.move_ended t j p o Outcome.Stayed) (ended_twin r s t i j p n o Outcome.Stayed keeps st asker h) is
ends_by r s t u i j p n o Outcome.Ended keeps st asker h is = none_some u is

pub twin_step : (r : Renaming) (c e : MsgId → ℕ) (s t u : OneKernel) (l : Label) → KeepsOrder r → Sound c e s → Told s → Twins r s t → kernel.step s l ≡ Some u → Twin r t l u
twin_step r c e s t u (Label.Ran p k) keeps sound told h is = twin_of r t u (Label.Ran p k) (Label.Ran p k) (refl, refl) (ran_twin r s t u p k h is)
twin_step r c e s t u (Label.Call p n d) keeps sound told h is =
    let (a, next, last) = bind-is (kernel.next_trap s p) (kernel.replies s p n d) u is in
    let b = twin_trap r s t p a h next in
    twin_of r t u (Label.Call p n d) (Label.Call p n d) (refl, refl, refl)
    (moved r u (kernel.replies t p n d b.trap) (kernel.step t (Label.Call p n d)) (ap (λ v. bind v (kernel.replies t p n d)) b.is) (replies_twin r s t u p n d a b.trap h b.twin last))
twin_step r c e s t u (Label.Send p id) keeps sound told h is =
    let (a, next, last) = bind-is (kernel.next_trap s p) (kernel.sends s p id) u is in
    let b = twin_trap r s t p a h next in
    sends_twin r s t u p id a b.trap keeps h b.twin b.is last
twin_step r c e s t u (Label.Wait p) keeps sound told h is =
    let (a, next, last) = bind-is (kernel.next_trap s p) (kernel.waits s p) u is in
    let b = twin_trap r s t p a h next in
    twin_of r t u (Label.Wait p) (Label.Wait p) refl (moved r u (kernel.waits t p b.trap) (kernel.step t (Label.Wait p)) (ap (λ v. bind v (kernel.waits t p)) b.is) (waits_twin r s t u p a b.trap h b.twin last))
twin_step r c e s t u (Label.Out p w) keeps sound told h is =
    let (a, next, last) = bind-is (kernel.next_trap s p) (kernel.outputs s p w) u is in
    let b = twin_trap r s t p a h next in
    twin_of r t u (Label.Out p w) (Label.Out p w) (refl, refl) (moved r u (kernel.outputs t p w b.trap) (kernel.step t (Label.Out p w)) (ap (λ v. bind v (kernel.outputs t p w)) b.is) (outputs_twin r s t u p w a b.trap h b.twin last))
twin_step r c e s t u (Label.End p y) keeps sound told h is =
    let (a, next, last) = bind-is (kernel.next_trap s p) (kernel.ends s p y) u is in
    let b = twin_trap r s t p a h next in
    twin_of r t u (Label.End p y) (Label.End p y) (refl, refl) (moved r u (kernel.ends t p y b.trap) (kernel.step t (Label.End p y)) (ap (λ v. bind v (kernel.ends t p y)) b.is) (ends_twin r s t u p y a b.trap h b.twin last))
twin_step r c e s t u (Label.Receive p id) keeps sound told h is =
    let (a, completes, last) = bind-is (kernel.completing s p id) (kernel.receives s p id) u is in
    let (m, there_) = in_bag_of s p id a completes in
    let n = there r s t id m h there_ in
    let b = twin_completing r s t p id n.name a n.stands h completes in
    twin_of r t u (Label.Receive p id) (Label.Receive p n.name) (refl, n.stands)
    (moved r u (kernel.receives t p n.name b.completed) (kernel.step t (Label.Receive p n.name)) (ap (λ v. bind v (kernel.receives t p n.name)) b.is) (receives_twin r s t u p id n.name a b.completed keeps n.stands h b.twin last))
twin_step r c e s t u (Label.Refuse p id d) keeps sound told h is =
    let (a, completes, last) = bind-is (kernel.completing s p id) (kernel.refuses s p d) u is in
    let (m, there_) = in_bag_of s p id a completes in
    let n = there r s t id m h there_ in
    let b = twin_completing r s t p id n.name a n.stands h completes in
    twin_of r t u (Label.Refuse p id d) (Label.Refuse p n.name d) (refl, n.stands, refl)
    (moved r u (kernel.refuses t p d b.completed) (kernel.step t (Label.Refuse p n.name d)) (ap (λ v. bind v (kernel.refuses t p d)) b.is) (refuses_twin r s t u p d a b.completed h b.twin last))
twin_step r c e s t u (Label.Served id) keeps sound told h is =
    let (m, there_, rest) = bind-is (s.bag id) (λ v. bind (kernel.at_hand s v.to) (λ p. serves s id v p v.what)) u is in
    let (x, hand, last) = bind-is (kernel.at_hand s m.to) (λ p. serves s id m p m.what) u rest in
    let n = there r s t id m h there_ in
    let y = twin_hand r s t m.to x h hand in
    let name = sound.entered.named id m there_ in
    twin_of r t u (Label.Served id) (Label.Served n.name) n.stands
    (moved r u (serves t n.name (under n.name m) y.process m.what) (kernel.step t (Label.Served n.name))
    (ap (λ o. bind o (λ v. bind (kernel.at_hand t v.to) (λ p. serves t n.name v p v.what))) n.is ∙ ap (λ o. bind o (λ p. serves t n.name (under n.name m) p m.what)) y.is)
    (twin_serves r s t id n.name m x y.process u keeps h n.stands name (λ piece. (sound.movers.returns id m there_ piece).0) y.twin last))
twin_step r c e s t u (Label.Took id) keeps sound told h is =
    let (m, there_, last) = bind-is (s.bag id) (service.takes s id) u is in
    let n = there r s t id m h there_ in
    twin_of r t u (Label.Took id) (Label.Took n.name) n.stands
    (moved r u (service.takes t n.name (under n.name m)) (kernel.step t (Label.Took n.name)) (ap (λ o. bind o (service.takes t n.name)) n.is)
    (twin_takes r s t id n.name m u keeps h n.stands (sound.entered.named id m there_) (told id m there_) last))
twin_step r c e s t u (Label.Dropped id) keeps sound told h is =
    let (m, there_, rest) = bind-is (s.bag id) (λ v. bind (kernel.why_ended (s.processes v.to)) (kernel.drops s id v)) u is in
    let (y, over, last) = bind-is (kernel.why_ended (s.processes m.to)) (kernel.drops s id m) u rest in
    let n = there r s t id m h there_ in
    let why = why_of m.to (r m.to) (s.processes m.to) (t.processes m.to) y (h.processes m.to) over in
    twin_of r t u (Label.Dropped id) (Label.Dropped n.name) n.stands
    (moved r u (kernel.drops t n.name (under n.name m) y) (kernel.step t (Label.Dropped n.name))
    (ap (λ o. bind o (λ v. bind (kernel.why_ended (t.processes v.to)) (kernel.drops t n.name v))) n.is ∙ ap (λ o. bind o (kernel.drops t n.name (under n.name m))) why)
    (when_twin r (service.is_dropped m.what) (service.is_dropped m.what) (without_message s id) (without_message t n.name) u refl (twin_out r s t id n.name keeps n.stands h) last))
twin_step r c e s t u (Label.Gone id) keeps sound told h is =
    let (m, there_, rest) = bind-is (s.bag id) (λ v. bind (kernel.why_ended (s.processes v.to)) (kernel.says_gone s id v)) u is in
    let (y, over, last) = bind-is (kernel.why_ended (s.processes m.to)) (kernel.says_gone s id m) u rest in
    let n = there r s t id m h there_ in
    let why = why_of m.to (r m.to) (s.processes m.to) (t.processes m.to) y (h.processes m.to) over in
    twin_of r t u (Label.Gone id) (Label.Gone n.name) n.stands
    (moved r u (kernel.says_gone t n.name (under n.name m) y) (kernel.step t (Label.Gone n.name))
    (ap (λ o. bind o (λ v. bind (kernel.why_ended (t.processes v.to)) (kernel.says_gone t n.name v))) n.is ∙ ap (λ o. bind o (kernel.says_gone t n.name (under n.name m))) why)
    (gone_by r s t u id n.name m (gone_what m.what) keeps n.stands (sound.entered.named id m there_) h last))
twin_step r c e s t u (Label.Created id child) keeps sound told h is =
    let (m, there_, last) = bind-is (s.bag id) (λ v. service.creates s id v child v.what) u is in
    let n = there r s t id m h there_ in
    twin_of r t u (Label.Created id child) (Label.Created n.name child) (n.stands, refl)
    (moved r u (service.creates t n.name (under n.name m) child m.what) (kernel.step t (Label.Created n.name child)) (ap (λ o. bind o (λ v. service.creates t n.name v child v.what)) n.is)
    (creates_by r c e s t u id n.name m child m.what keeps n.stands (sound.entered.named id m there_) sound h last))
twin_step r c e s t u (Label.NoSpace id a b) keeps sound told h is =
    let (m, there_, last) = bind-is (s.bag id) (λ v. service.has_no_room s id v v.what) u is in
    let n = there r s t id m h there_ in
    twin_of r t u (Label.NoSpace id a b) (Label.NoSpace n.name a b) (n.stands, refl, refl)
    (moved r u (service.has_no_room t n.name (under n.name m) m.what) (kernel.step t (Label.NoSpace n.name a b)) (ap (λ o. bind o (λ v. service.has_no_room t n.name v v.what)) n.is)
    (no_room_by r s t u id n.name m m.what keeps n.stands (sound.entered.named id m there_) h last))
twin_step r c e s t u (Label.Asked id) keeps sound told h is =
    let (m, there_, rest) = bind-is (s.bag id) (λ v. bind (kernel.at_hand s v.to) (λ p. follows_request s id v v.what)) u is in
    let (x, hand, last) = bind-is (kernel.at_hand s m.to) (λ p. follows_request s id m m.what) u rest in
    let n = there r s t id m h there_ in
    let y = twin_hand r s t m.to x h hand in
    twin_of r t u (Label.Asked id) (Label.Asked n.name) n.stands
    (moved r u (follows_request t n.name (under n.name m) m.what) (kernel.step t (Label.Asked n.name))
    (ap (λ o. bind o (λ v. bind (kernel.at_hand t v.to) (λ p. follows_request t n.name v v.what))) n.is ∙ ap (λ o. bind o (λ p. follows_request t n.name (under n.name m) m.what)) y.is)
    (asked_by r s t u id n.name m m.what keeps n.stands h last))
twin_step r c e s t u (Label.Answered id o) keeps sound told h is =
    let (p, noted, rest) = bind-is (s.noted id) (λ q. bind (s.notes q) (λ n. service.ends_move s id q n o)) u is in
    let (n, notes, last) = bind-is (s.notes p) (λ n. service.ends_move s id p n o) u rest in
    let own = note-is e s id p n noted notes sound.notes in
    let w = note_of r (s.notes p) (t.notes p) n (h.notes p) notes in
    let st : Stands r id w.note.id = subst (λ v. Stands r v w.note.id) own w.stands in
    let follows : t.noted w.note.id ≡ Some p = h.noted id w.note.id st ∙ noted in
    twin_of r t u (Label.Answered id o) (Label.Answered w.note.id o) (st, refl)
    (moved r u (service.ends_move t w.note.id p w.note o) (kernel.step t (Label.Answered w.note.id o))
    (ap (λ q. bind q (λ v. bind (t.notes v) (λ z. service.ends_move t w.note.id v z o))) follows ∙ ap (λ q. bind q (λ z. service.ends_move t w.note.id p z o)) w.is)
    (ends_by r s t u id w.note.id p n w.note o keeps st w.asker h last))
