-- A receive to which the one message comes that its queue has.
use Rattle.std.specs.Prelude.{◌≡◌, ◌&&◌, ℕ, Bool, true, false, if◌then◌else◌, IfSome, is_some, List, [], ◌∷◌, length, map, not, slice_get}
use Rattle.std.proofs.Common.{refl, sym, subst, ap, arith, ◌∙◌}
use Rattle.std.proofs.lemmas.List.Elements.{All-cons, All-nil}
use Rattle.std.specs.List.{All}
use Rattle.std.specs.declared.option.Option.{Option}
use Rattle.std.specs.declared.option.Option.TheVariants.{None, Some}
use Rattle.dm_link.specs.Names.{pid_eq}
use Rattle.dm_link.specs.Plain.{plain_link}
use Rattle.dm_link.specs.declared.Pid.{Pid}
use Rattle.dm_linktable.proofs.ReceiverOrder.{pid_eq_same}
use Rattle.dm_message.specs.declared.Message.{Message}
use Rattle.dm_message.specs.declared.MsgId.{MsgId}
use Rattle.dm_message.specs.declared.What.{What}
use Rattle.dm_message.specs.declared.What.TheVariants as what
use Rattle.dm_message.specs.Lawful.{IsLawfulMessage}
use Rattle.dm_message.specs.Plain as plain
use Rattle.dm_message.specs.Plain.{PlainMessage, plain_message, plain_what, with_what}
use Rattle.dm_process.specs.declared.process.Process.{Process}
use Rattle.dm_process.specs.declared.process.Service.{Service}
use Rattle.dm_process.specs.declared.process.Service.TheVariants as service
use Rattle.dm_process.specs.declared.process.Status.TheVariants as status
use Rattle.dm_process.specs.Lawful.{IsLawfulProcess}
use Rattle.dm_process.specs.Mail.{first_on, is_on, what_is_on}
use Rattle.dm_process.specs.Process.{is_runnable}
use Rattle.dm_process.specs.Service.{IsServiceOf, Takes}
use Rattle.dm_onekernel.specs.Kernel.{OneKernel}
use Rattle.dm_onekernel.specs.Options.{bind}
use Rattle.dm_onekernel.specs.Plain.{plain_process}
use Rattle.dm_onekernel.specs.PlainProcess.{PlainProcess}
use Rattle.dm_onekernel.specs.Receiving.{Completed, completes_with}
use Rattle.dm_onekernel.specs.Step.{at_hand, completing}
use Rattle.dm_syscall.specs.Completing.{IsAwaited}
use Rattle.dm_replay.specs.Answers.{IsRefused}
use Rattle.dm_replay.specs.State.{without_process}
use Rattle.dm_replay.specs.Tests.{place_in}
use Rattle.dm_replay.specs.declared.kernel.Refusal.{Refusal}
use Rattle.dm_replay.proofs.Receives.{executes_not, takes_not}
use Rattle.dm_replay.proofs.Rows.{refused}

-- a process with one message that can be carried is lawful
pub queue_lawful : (x : Process) (q : List Message) (m : Message) → q ≡ m ∷ [] → IsLawfulMessage m → IsLawfulProcess x → IsLawfulProcess (record x { queue = q })
queue_lawful x q m e lawful h =
    record {
      home = h.home;
      registers = h.registers;
      size = h.size;
      links = h.links;
      slots = h.slots;
      status = h.status;
      queue = subst (All IsLawfulMessage) (sym e) (All-cons IsLawfulMessage m [] lawful (All-nil IsLawfulMessage));
    }

-- what is served, by where the message stands
pub record Served (y : Process) (place : ℕ) : Type 0 where
  pub mask : ℕ
  pub takes : Takes y mask place
  pub runnable : is_runnable y ≡ true

pub placed : (o : Option Service) (y : Process) (place : ℕ) → place_in o ≡ Some place → is_some o ≡ is_runnable y → IfSome o (IsServiceOf y) → Served y place
placed None y place e run h = absurd (cc)
placed (Some service.Execute) y place e run h = absurd (cc)
placed (Some (service.Receive mask k)) y place e run h =
    let same : k ≡ place = cc in record { mask = mask; takes = subst (Takes y mask) same h; runnable = sym run }

-- nothing is served
pub no_place : (p : Pid) (o : Option Service) (y : Process) (m : Message) → place_in o ≡ None → is_some o ≡ is_runnable y → IfSome o (IsServiceOf y) → y.queue ≡ m ∷ [] → bind (plain_message m) (completes_with p (plain_process y)) ≡ None
no_place p None y m e run h queue = takes_not p y m queue (sym run)
no_place p (Some service.Execute) y m e run h queue = executes_not p y m h
no_place p (Some (service.Receive mask k)) y m e run h queue = absurd (cc)

on_of : (c : Bool) (m : Message) → Some m ≡ (if c then Some m else None) → c ≡ true
on_of true m e = refl
on_of false m e = absurd (cc)

-- the message is the one in the queue, and on the mask
pub record TakesOne (mask place : ℕ) (m : Message) : Type 0 where
  pub front : place ≡ 0
  pub on : is_on mask m ≡ true

pub takes_one : (y : Process) (m : Message) (mask place : ℕ) → y.queue ≡ m ∷ [] → Takes y mask place → TakesOne mask place m
takes_one y m mask place queue h =
    let within = h.within in
    let len : length y.queue ≡ 1 = ap length queue in
    let front : place ≡ 0 = omega (arith, within, len) in
    let first : slice_get y.queue place ≡ first_on mask y.queue = h.first in
    record { front = front; on = on_of (is_on mask m) m (sym (ap (λ q. slice_get q 0) queue) ∙ sym (ap (slice_get y.queue) front) ∙ first ∙ ap (first_on mask) queue) }

pub awaits_it : (y : Process) (m : Message) (mask place : ℕ) → y.queue ≡ m ∷ [] → Takes y mask place → IsAwaited y.status (slice_get y.queue place)
awaits_it y m mask place queue h =
    let one = takes_one y m mask place queue h in
    subst (λ s. IsAwaited s (slice_get y.queue place)) (sym h.waits)
    (subst (λ o. IsAwaited (status.Waiting mask h.base h.cap_) o) (sym (ap (slice_get y.queue) one.front ∙ ap (λ q. slice_get q 0) queue)) one.on)

-- so it has a plain meaning
on_what : (mask : ℕ) (m : Message) (k : What) → what_is_on mask k ≡ true → (w : PlainMessage) × (with_what m (plain_what k) ≡ Some w) × (w.to ≡ m.to.pid)
on_what mask m (what.User code channel body links) e = (record { id = m.id; to = m.to.pid; sender = m.sender.pid; what = plain.User code channel body.items (map plain_link links.items) }, refl, refl)
on_what mask m k e = absurd (cc)

not_stopped : (stopped c : Bool) → not stopped && c ≡ true → stopped ≡ false
not_stopped true c e = absurd (cc)
not_stopped false c e = refl

-- what the code says of it, where the message has a plain meaning
abbrev pub IsPlainly : Process → ℕ → Completed → Type 0
IsPlainly y place d = (w : PlainMessage) → bind (slice_get y.queue place) plain_message ≡ Some w → w.to ≡ y.pid → y.stopped ≡ false → completes_with y.pid (plain_process y) w ≡ Some d

-- what the receive comes to, by what the code says of it
pub comes_so : (p : Pid) (y : Process) (m : Message) (mask place : ℕ) (d : Completed) → y.queue ≡ m ∷ [] → Takes y mask place → is_runnable y ≡ true → y.pid ≡ p → pid_eq m.to.pid p ≡ true
    → IsPlainly y place d → bind (plain_message m) (completes_with p (plain_process y)) ≡ Some d
comes_so p y m mask place d queue takes run named for_it plainly =
    let one = takes_one y m mask place queue takes in
    let w = on_what mask m m.what one.on in
    let there : bind (slice_get y.queue place) plain_message ≡ Some w.0 = ap (λ o. bind o plain_message) (ap (slice_get y.queue) one.front ∙ ap (λ q. slice_get q 0) queue) ∙ w.1 in
    ap (λ o. bind o (completes_with p (plain_process y))) w.1
    ∙ ap (λ q. completes_with q (plain_process y) w.0) (sym named)
    ∙ plainly w.0 there (w.2 ∙ pid_eq_same m.to.pid p for_it ∙ sym named) (not_stopped y.stopped _ run)

-- with a process at hand, and the message of the bag
pub completing_as : (s t : OneKernel) (p : Pid) (id : MsgId) (x : PlainProcess) (m : Message) → t ≡ without_process s p → at_hand s p ≡ Some x → t.bag id ≡ plain_message m → completing s p id ≡ bind (plain_message m) (completes_with p x)
completing_as s t p id x m e hand at =
    ap (λ o. bind o (λ x. bind (s.bag id) (completes_with p x))) hand ∙ ap (λ o. bind o (completes_with p x)) (sym (ap (λ (u : OneKernel). u.bag id) e) ∙ at)

-- or without the message
pub completing_not : (s t : OneKernel) (p : Pid) (id : MsgId) (x : PlainProcess) (e : Refusal) → t ≡ without_process s p → at_hand s p ≡ Some x → IsRefused e (t.bag id) → IsRefused e (completing s p id)
completing_not s t p id x e out hand h =
    subst (λ o. IsRefused e (bind o (λ x. bind (s.bag id) (completes_with p x)))) (sym hand)
    (refused e (s.bag id) (completes_with p x) (subst (λ (u : OneKernel). IsRefused e (u.bag id)) out h))
