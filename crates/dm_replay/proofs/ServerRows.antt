-- What a message for a server comes to.
use Rattle.std.specs.Prelude.{◌≡◌, Bool, true, false, if◌then◌else◌}
use Rattle.std.proofs.Common.{refl, sym, ap, ◌∙◌}
use Rattle.std.specs.declared.option.Option.{Option}
use Rattle.std.specs.declared.option.Option.TheVariants.{None, Some}
use Rattle.dm_link.specs.Names.{pid_eq}
use Rattle.dm_message.specs.declared.Message.{Message}
use Rattle.dm_message.specs.declared.MsgId.{MsgId}
use Rattle.dm_message.specs.Plain.{PlainWhat, plain_message, plain_what, with_what}
use Rattle.dm_onekernel.specs.Boot.{manager, switchboard}
use Rattle.dm_onekernel.specs.Kernel.{OneKernel}
use Rattle.dm_onekernel.specs.Options.{bind}
use Rattle.dm_onekernel.specs.Service.{takes, without_message}
use Rattle.dm_replay.specs.Serving.{board_at, manager_at}

either : {A : Type 0} (c d : Bool) (x y : A) → c ≡ d → (if c then x else y) ≡ (if d then x else y)
either c d x y e = ap (λ c. if c then x else y) e

board_what : (s : OneKernel) (id : MsgId) (m : Message) (o : Option PlainWhat) → pid_eq m.to.pid switchboard ≡ true
    → board_at (without_message s id) (with_what m o) ≡ bind (with_what m o) (takes s id)
board_what s id m None e = refl
board_what s id m (Some w) e = sym (either (pid_eq m.to.pid switchboard) true _ _ e)

-- the switchboard takes it
pub took_board : (s t : OneKernel) (id : MsgId) (m : Message) → t ≡ without_message s id → s.bag id ≡ plain_message m → pid_eq m.to.pid switchboard ≡ true
    → board_at t (plain_message m) ≡ bind (s.bag id) (takes s id)
took_board s t id m e at is = ap (λ t. board_at t (plain_message m)) e ∙ board_what s id m (plain_what m.what) is ∙ sym (ap (λ o. bind o (takes s id)) at)

manager_what : (s : OneKernel) (id : MsgId) (m : Message) (o : Option PlainWhat) → pid_eq m.to.pid switchboard ≡ false → pid_eq m.to.pid manager ≡ true
    → manager_at (without_message s id) (with_what m o) ≡ bind (with_what m o) (takes s id)
manager_what s id m None e f = refl
manager_what s id m (Some w) e f = sym (either (pid_eq m.to.pid switchboard) false _ _ e ∙ either (pid_eq m.to.pid manager) true _ _ f)

-- the manager takes it
pub took_manager : (s t : OneKernel) (id : MsgId) (m : Message) → t ≡ without_message s id → s.bag id ≡ plain_message m → pid_eq m.to.pid switchboard ≡ false → pid_eq m.to.pid manager ≡ true
    → manager_at t (plain_message m) ≡ bind (s.bag id) (takes s id)
took_manager s t id m e at off is = ap (λ t. manager_at t (plain_message m)) e ∙ manager_what s id m (plain_what m.what) off is ∙ sym (ap (λ o. bind o (takes s id)) at)

nobody_what : (s : OneKernel) (id : MsgId) (m : Message) (o : Option PlainWhat) → pid_eq m.to.pid switchboard ≡ false → pid_eq m.to.pid manager ≡ false
    → bind (with_what m o) (takes s id) ≡ None
nobody_what s id m None e f = refl
nobody_what s id m (Some w) e f = either (pid_eq m.to.pid switchboard) false _ _ e ∙ either (pid_eq m.to.pid manager) false _ _ f

-- neither takes it
pub took_nobody : (s : OneKernel) (id : MsgId) (m : Message) → s.bag id ≡ plain_message m → pid_eq m.to.pid switchboard ≡ false → pid_eq m.to.pid manager ≡ false
    → bind (s.bag id) (takes s id) ≡ None
took_nobody s id m at off nor = ap (λ o. bind o (takes s id)) at ∙ nobody_what s id m (plain_what m.what) off nor
