-- What becomes of messages whose receiver has ended.
use Rattle.std.specs.Prelude.{◌≡◌, ◌&&◌, Bool, true, false, is_some}
use Rattle.std.proofs.Common.{refl, sym, ap, ◌∙◌}
use Rattle.std.specs.Option.{option_map_or}
use Rattle.std.specs.declared.option.Option.{Option}
use Rattle.std.specs.declared.option.Option.TheVariants.{None, Some}
use Rattle.dm_message.specs.declared.Message.{Message}
use Rattle.dm_message.specs.declared.MsgId.{MsgId}
use Rattle.dm_message.specs.declared.What.{What}
use Rattle.dm_message.specs.declared.What.TheVariants as what
use Rattle.dm_message.specs.Plain.{PlainWhat, plain_message, plain_what, with_what}
use Rattle.dm_onekernel.specs.declared.label.Label.TheVariants as label
use Rattle.dm_onekernel.specs.declared.label.Why.{Why}
use Rattle.dm_onekernel.specs.Kernel.{OneKernel, with_sent}
use Rattle.dm_onekernel.specs.Options.{bind, when}
use Rattle.dm_onekernel.specs.Pieces.{answer_to}
use Rattle.dm_onekernel.specs.Service.{gone_what, is_dropped, without_message}
use Rattle.dm_onekernel.specs.Step.{drops, says_gone, step, why_ended}
use Rattle.dm_datamove.specs.Serving as serving
use Rattle.dm_datamove.specs.Serving.{IsRequest, plainly_gone}
use Rattle.dm_replay.specs.Tests.{is_asked_what, is_dropped_what}

nothing_when : {A : Type 0} (y : Option Why) (x : A) → None ≡ when (is_some y && false) x
nothing_when None x = refl
nothing_when (Some y) x = refl

dropped_by : (s : OneKernel) (id : MsgId) (m : Message) (o : Option PlainWhat) (y : Option Why) → why_ended (s.processes m.to.pid) ≡ y
    → bind (with_what m o) (λ w. bind (why_ended (s.processes w.to)) (drops s id w)) ≡ when (is_some y && option_map_or is_dropped o false) (without_message s id)
dropped_by s id m None y e = nothing_when y (without_message s id)
dropped_by s id m (Some w) None e = ap (λ o. bind o (drops s id (record { id = m.id; to = m.to.pid; sender = m.sender.pid; what = w }))) e
dropped_by s id m (Some w) (Some y) e = ap (λ o. bind o (drops s id (record { id = m.id; to = m.to.pid; sender = m.sender.pid; what = w }))) e

-- a message is dropped
pub dropped : (s : OneKernel) (id : MsgId) (m : Message) → s.bag id ≡ plain_message m
    → step s (label.Dropped id) ≡ when (is_some (why_ended (s.processes m.to.pid)) && is_dropped_what m.what) (without_message s id)
dropped s id m e =
    ap (λ o. bind o (λ w. bind (why_ended (s.processes w.to)) (drops s id w))) e ∙ dropped_by s id m (plain_what m.what) (why_ended (s.processes m.to.pid)) refl

gone_by : (s : OneKernel) (id : MsgId) (m : Message) (o : Option PlainWhat) (y : Option Why) → why_ended (s.processes m.to.pid) ≡ y → is_some y ≡ true
    → bind (with_what m o) (λ w. bind (why_ended (s.processes w.to)) (says_gone s id w))
    ≡ bind (plainly_gone (with_what m o)) (λ a. Some (with_sent (without_message s id) (Some a)))
gone_by s id m None y e h = refl
gone_by s id m (Some w) None e h = absurd (cc)
gone_by s id m (Some w) (Some y) e h =
    ap (λ o. bind o (says_gone s id (record { id = m.id; to = m.to.pid; sender = m.sender.pid; what = w }))) e ∙ same (gone_what w)
  where
    same : (g : Option PlainWhat) → bind g (λ v. Some (with_sent (without_message s id) (Some (answer_to (record { id = m.id; to = m.to.pid; sender = m.sender.pid; what = w }) v))))
        ≡ bind (bind g (λ v. Some (answer_to (record { id = m.id; to = m.to.pid; sender = m.sender.pid; what = w }) v))) (λ a. Some (with_sent (without_message s id) (Some a)))
    same None = refl
    same (Some v) = refl

-- it is answered that its receiver has ended
pub gone : (s : OneKernel) (id : MsgId) (m : Message) → s.bag id ≡ plain_message m → is_some (why_ended (s.processes m.to.pid)) ≡ true
    → step s (label.Gone id) ≡ bind (plainly_gone (plain_message m)) (λ a. Some (with_sent (without_message s id) (Some a)))
gone s id m e h =
    ap (λ o. bind o (λ w. bind (why_ended (s.processes w.to)) (says_gone s id w))) e ∙ gone_by s id m (plain_what m.what) (why_ended (s.processes m.to.pid)) refl h

not_gone_by : (s : OneKernel) (id : MsgId) (m : Message) (o : Option PlainWhat) (y : Option Why) → why_ended (s.processes m.to.pid) ≡ y → is_some y && is_some (bind o gone_what) ≡ false
    → bind (with_what m o) (λ w. bind (why_ended (s.processes w.to)) (says_gone s id w)) ≡ None
not_gone_by s id m None y e h = refl
not_gone_by s id m (Some w) None e h = ap (λ o. bind o (says_gone s id (record { id = m.id; to = m.to.pid; sender = m.sender.pid; what = w }))) e
not_gone_by s id m (Some w) (Some y) e h =
    ap (λ o. bind o (says_gone s id (record { id = m.id; to = m.to.pid; sender = m.sender.pid; what = w }))) e ∙ none_of (gone_what w) h
  where
    none_of : (g : Option PlainWhat) → is_some g ≡ false → bind g (λ v. Some (with_sent (without_message s id) (Some (answer_to (record { id = m.id; to = m.to.pid; sender = m.sender.pid; what = w }) v)))) ≡ None
    none_of None h = refl
    none_of (Some v) h = absurd (cc)

-- or it isn't
pub not_gone : (s : OneKernel) (id : MsgId) (m : Message) → s.bag id ≡ plain_message m → is_some (why_ended (s.processes m.to.pid)) && is_asked_what m.what ≡ false → step s (label.Gone id) ≡ None
not_gone s id m e h =
    ap (λ o. bind o (λ w. bind (why_ended (s.processes w.to)) (says_gone s id w))) e ∙ not_gone_by s id m (plain_what m.what) (why_ended (s.processes m.to.pid)) refl h

-- what is answered is a request
pub asks : (w : What) → is_asked_what w ≡ true → IsRequest w
asks (what.Read base len) e = tt
asks (what.Write base bytes) e = tt
asks (what.Move machine) e = tt
asks w e = absurd (cc)

both_true : (a b : Bool) → a && b ≡ true → (a ≡ true) × (b ≡ true)
both_true true b e = (refl, e)
both_true false b e = absurd (cc)

-- by the test of the code, once the message is taken out
pub drops_when : (s t : OneKernel) (id : MsgId) (m : Message) (c : Bool) → t ≡ without_message s id → s.bag id ≡ plain_message m → c ≡ is_some (why_ended (t.processes m.to.pid)) && is_dropped_what m.what → step s (label.Dropped id) ≡ when c t
drops_when s t id m c e at is =
    dropped s id m at ∙ ap (λ h. when h (without_message s id)) (sym (ap (λ (u : OneKernel). is_some (why_ended (u.processes m.to.pid)) && is_dropped_what m.what) e) ∙ sym is) ∙ sym (ap (when c) e)

pub vain_not : (s t : OneKernel) (id : MsgId) (m : Message) (c : Bool) → t ≡ without_message s id → s.bag id ≡ plain_message m → c ≡ is_some (why_ended (t.processes m.to.pid)) && is_asked_what m.what → c ≡ false → step s (label.Gone id) ≡ None
vain_not s t id m c e at is fails = not_gone s id m at (sym (ap (λ (u : OneKernel). is_some (why_ended (u.processes m.to.pid)) && is_asked_what m.what) e) ∙ sym is ∙ fails)

pub vain_so : (s t : OneKernel) (id : MsgId) (m : Message) (c : Bool) → t ≡ without_message s id → s.bag id ≡ plain_message m → c ≡ is_some (why_ended (t.processes m.to.pid)) && is_asked_what m.what → c ≡ true
    → step s (label.Gone id) ≡ bind (plainly_gone (plain_message m)) (λ a. Some (with_sent (without_message s id) (Some a)))
vain_so s t id m c e at is holds =
    gone s id m at (both_true (is_some (why_ended (s.processes m.to.pid))) (is_asked_what m.what) (sym (ap (λ (u : OneKernel). is_some (why_ended (u.processes m.to.pid)) && is_asked_what m.what) e) ∙ sym is ∙ holds)).0

pub asked_of : (y : Bool) (w : What) → y && is_asked_what w ≡ true → IsRequest w
asked_of y w e = asks w (both_true y (is_asked_what w) e).1

-- what is answered then has a plain meaning
pub gone_said : (w : What) → is_some (plain_what (serving.gone_what w)) ≡ true
gone_said (what.Move machine) = refl
gone_said w = refl
