-- When a message of the bag comes to a receive.
use Rattle.std.specs.Prelude.{◌≡◌, ◌&&◌, ℕ, Bool, true, false, if◌then◌else◌, [], ◌∷◌, is_some, not}
use Rattle.std.proofs.Common.{refl, sym, ap, ◌∙◌}
use Rattle.std.specs.declared.option.Option.{Option}
use Rattle.std.specs.declared.option.Option.TheVariants.{None, Some}
use Rattle.dm_link.specs.declared.Pid.{Pid}
use Rattle.dm_link.specs.Names.{pid_eq}
use Rattle.dm_message.specs.declared.Message.{Message}
use Rattle.dm_message.specs.declared.What.{What}
use Rattle.dm_message.specs.declared.What.TheVariants as what
use Rattle.dm_message.specs.Plain.{PlainMessage, plain_message, plain_what, with_what}
use Rattle.dm_process.specs.declared.process.Process.{Process}
use Rattle.dm_process.specs.declared.process.Status.{Status}
use Rattle.dm_process.specs.declared.process.Status.TheVariants as status
use Rattle.dm_process.specs.Mail.{is_on, on_mask, what_is_on}
use Rattle.dm_process.specs.Process.{is_runnable, status_is_runnable}
use Rattle.dm_onekernel.specs.Options.{bind}
use Rattle.dm_onekernel.specs.Plain.{plain_process, plain_status}
use Rattle.dm_onekernel.specs.PlainProcess.{PlainProcess}
use Rattle.dm_onekernel.specs.Receiving.{Completed, completes_with, completes_status, completes_what}

-- a message on no channel of the mask comes to no receive
off_mask : (b c : Bool) (x : Completed) → c ≡ false → (if b && c then Some x else None) ≡ None
off_mask true true x e = absurd (cc)
off_mask true false x e = refl
off_mask false c x e = refl

not_on : (p : Pid) (x : PlainProcess) (m : Message) (mask base cap_ : ℕ) (w : What) → what_is_on mask w ≡ false
    → bind (with_what m (plain_what w)) (λ m. completes_what p x m mask base cap_ m.what) ≡ None
not_on p x m mask base cap_ (what.User code channel body links) e = off_mask (pid_eq m.to.pid p) (on_mask mask channel) _ e
not_on p x m mask base cap_ what.Stop e = refl
not_on p x m mask base cap_ w e = refl

some_first : (c : Bool) (m : Message) → is_some (if c then Some m else None) ≡ false → c ≡ false
some_first true m e = absurd (cc)
some_first false m e = refl

pub nothing : {A B : Type 0} (o : Option A) (go : A → Option B) → ((x : A) → go x ≡ None) → bind o go ≡ None
nothing None go h = refl
nothing (Some x) go h = h x

status_waits_not : (p : Pid) (x : PlainProcess) (m : Message) (s : Status) → status_is_runnable s (m ∷ []) ≡ false
    → bind (plain_message m) (λ m. completes_status p x m (plain_status s)) ≡ None
status_waits_not p x m status.Ready e = absurd (cc)
status_waits_not p x m (status.Waiting mask base size) e = not_on p x m mask base size m.what (some_first (is_on mask m) m e)
status_waits_not p x m (status.Moving dir owner base own left pending) e = nothing (plain_message m) (λ (w : PlainMessage). completes_status p x w (plain_status (status.Moving dir owner base own left pending))) (λ w. refl)

stopped_or : (p : Pid) (x : PlainProcess) (m : Message) (s : Status) (stopped : Bool) → not stopped && status_is_runnable s (m ∷ []) ≡ false
    → bind (plain_message m) (λ m. if stopped then None else completes_status p x m (plain_status s)) ≡ None
stopped_or p x m s true e = nothing (plain_message m) (λ (w : PlainMessage). if true then None else completes_status p x w (plain_status s)) (λ w. refl)
stopped_or p x m s false e = status_waits_not p x m s e

-- a process that can't be served with the message takes it not
pub takes_not : (p : Pid) (x : Process) (m : Message) → x.queue ≡ m ∷ [] → is_runnable x ≡ false → bind (plain_message m) (completes_with p (plain_process x)) ≡ None
takes_not p x m queue e =
    stopped_or p (plain_process x) m x.status x.stopped (sym (ap (λ q. not x.stopped && status_is_runnable x.status q) queue) ∙ e)

ready_not : (p : Pid) (x : PlainProcess) (m : Message) (stopped : Bool) → bind (plain_message m) (λ m. if stopped then None else completes_status p x m (plain_status status.Ready)) ≡ None
ready_not p x m true = nothing (plain_message m) (λ (w : PlainMessage). if true then None else completes_status p x w (plain_status status.Ready)) (λ w. refl)
ready_not p x m false = nothing (plain_message m) (λ (w : PlainMessage). completes_status p x w (plain_status status.Ready)) (λ w. refl)

-- nor one that executes
pub executes_not : (p : Pid) (x : Process) (m : Message) → x.status ≡ status.Ready → bind (plain_message m) (completes_with p (plain_process x)) ≡ None
executes_not p x m e =
    ap (λ s. bind (plain_message m) (λ m. if x.stopped then None else completes_status p (plain_process x) m (plain_status s))) e ∙ ready_not p (plain_process x) m x.stopped

-- nor one that is for another
and_not : (a b : Bool) (x : Completed) → a ≡ false → (if a && b then Some x else None) ≡ None
and_not true b x e = absurd (cc)
and_not false b x e = refl

other_what : (p : Pid) (x : PlainProcess) (m : Message) (mask base size : ℕ) (w : What) → pid_eq m.to.pid p ≡ false → bind (with_what m (plain_what w)) (λ m. completes_what p x m mask base size m.what) ≡ None
other_what p x m mask base size (what.User code channel body links) e = and_not (pid_eq m.to.pid p) (on_mask mask channel) _ e
other_what p x m mask base size what.Stop e = refl
other_what p x m mask base size w e = refl

other_status : (p : Pid) (x : PlainProcess) (m : Message) (s : Status) → pid_eq m.to.pid p ≡ false → bind (plain_message m) (λ m. completes_status p x m (plain_status s)) ≡ None
other_status p x m status.Ready e = nothing (plain_message m) (λ (w : PlainMessage). completes_status p x w (plain_status status.Ready)) (λ w. refl)
other_status p x m (status.Waiting mask base size) e = other_what p x m mask base size m.what e
other_status p x m (status.Moving dir owner base own left pending) e = nothing (plain_message m) (λ (w : PlainMessage). completes_status p x w (plain_status (status.Moving dir owner base own left pending))) (λ w. refl)

other_or : (p : Pid) (x : PlainProcess) (m : Message) (s : Status) (stopped : Bool) → pid_eq m.to.pid p ≡ false → bind (plain_message m) (λ m. if stopped then None else completes_status p x m (plain_status s)) ≡ None
other_or p x m s true e = nothing (plain_message m) (λ (w : PlainMessage). if true then None else completes_status p x w (plain_status s)) (λ w. refl)
other_or p x m s false e = other_status p x m s e

pub not_for : (p : Pid) (x : Process) (m : Message) → pid_eq m.to.pid p ≡ false → bind (plain_message m) (completes_with p (plain_process x)) ≡ None
not_for p x m e = other_or p (plain_process x) m x.status x.stopped e
