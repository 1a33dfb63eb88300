-- A process that nobody can reach.
use Rattle.std.specs.Prelude.{◌≡◌, ⊤, ℕ, Bool, false, ◌&&◌, ◌||◌, List}
use Rattle.std.specs.Option.{option_map_or}
use Rattle.std.specs.declared.option.Option.{Option}
use Rattle.std.specs.declared.option.Option.TheVariants.{None, Some}
use Rattle.dm_link.specs.declared.Pid.{Pid}
use Rattle.dm_link.specs.Names.{pid_eq}
use Rattle.dm_link.specs.Plain.{PlainLink}
use Rattle.dm_message.specs.declared.MsgId.{MsgId}
use Rattle.dm_message.specs.Plain as what
use Rattle.dm_message.specs.Plain.{PlainMessage, PlainWhat}
use Rattle.dm_onekernel.specs.Boot.{manager}
use Rattle.dm_onekernel.specs.Kernel.{Alive, NamedLink, OneKernel, Pending}
use Rattle.dm_onekernel.specs.Manager.{child_numbered}
use Rattle.dm_onekernel.specs.PlainProcess.{PlainProcess, PlainStatus, Ready, Waiting, Moving}
use Rattle.dm_law_always.specs.Fits.{Each}

-- the manager's child of this number is p
abbrev pub is_numbered : List Pid → ℕ → Pid → Bool
is_numbered children code p = option_map_or (λ c. pid_eq p c) (child_numbered children code) false

-- by such a link something can be done to p: it gives a right to p's memory or leads to p's kernel, or leads to the manager under
-- p's number
abbrev pub acts_on : List Pid → Pid → PlainLink → Bool
acts_on children p l = (pid_eq p l.to && (l.to_kernel || (l.area.read || l.area.write))) || (pid_eq l.to manager && is_numbered children l.code p)

abbrev pub Spared : List Pid → Pid → PlainLink → Type 0
Spared children p l = acts_on children p l ≡ false

abbrev pub MaybeSpared : List Pid → Pid → Option PlainLink → Type 0
MaybeSpared children p None = ⊤
MaybeSpared children p (Some l) = Spared children p l

-- no data is moved from or to p's memory
abbrev pub OwnerSpared : Pid → PlainStatus → Type 0
OwnerSpared p Ready = ⊤
OwnerSpared p (Waiting mask base cap) = ⊤
OwnerSpared p (Moving dir owner base own left pending) = pid_eq p owner ≡ false

-- such a message does nothing to p but that p can receive it: a user message, not to the manager under p's number, or one that isn't
-- for p; and it has no link by which something can be done to p, nor is it the one that gives p its number
abbrev pub MessageSpares : List Pid → Pid → PlainMessage → PlainWhat → Type 0
MessageSpares children p m (what.User code channel body links) = ((pid_eq m.to manager && is_numbered children code p) ≡ false) × Each (Spared children p) links
MessageSpares children p m (what.Create image links) = (pid_eq p m.to ≡ false) × Each (Spared children p) links
MessageSpares children p m (what.Created child) = (pid_eq p m.to ≡ false) × (pid_eq p child ≡ false)
MessageSpares children p m what.Stop = pid_eq p m.to ≡ false
MessageSpares children p m what.Resume = pid_eq p m.to ≡ false
MessageSpares children p m what.Kill = pid_eq p m.to ≡ false
MessageSpares children p m (what.Read base len) = pid_eq p m.to ≡ false
MessageSpares children p m (what.Write base bytes) = pid_eq p m.to ≡ false
MessageSpares children p m (what.Block bytes) = pid_eq p m.to ≡ false
MessageSpares children p m what.Written = pid_eq p m.to ≡ false
MessageSpares children p m what.Gone = pid_eq p m.to ≡ false
MessageSpares children p m what.NoRoom = pid_eq p m.to ≡ false
MessageSpares children p m (what.Move machine) = pid_eq p m.to ≡ false
MessageSpares children p m (what.Moved outcome) = pid_eq p m.to ≡ false

-- nobody but p can do anything to p: neither another process, nor a message, nor a server
pub record IsSpared (s : OneKernel) (p : Pid) : Type 0 where
  pub tables : (q : Pid) (x : PlainProcess) → pid_eq p q ≡ false → s.processes q ≡ Some (Alive x) → Each (MaybeSpared s.manager.children p) x.links
  pub movers : (q : Pid) (x : PlainProcess) → pid_eq p q ≡ false → s.processes q ≡ Some (Alive x) → OwnerSpared p x.status
  pub messages : (i : MsgId) (m : PlainMessage) → s.bag i ≡ Some m → MessageSpares s.manager.children p m m.what
  pub names : Each (λ (k : NamedLink). Spared s.manager.children p k.link) s.switchboard.names
  pub answers : Each (λ (r : Pending). MaybeSpared s.manager.children p r.answer) s.manager.pending
