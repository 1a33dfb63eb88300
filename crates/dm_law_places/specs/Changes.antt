-- What a step with places leaves as it is: all processes but one, all messages but the one that it takes and the one that it
-- sends, and the servers, unless they take a message.
use Rattle.std.specs.Prelude.{◌≡◌, ℕ, Bool, true, false, List, option_map}
use Rattle.std.specs.declared.option.Option.{Option}
use Rattle.std.specs.declared.option.Option.TheVariants.{None, Some}
use Rattle.dm_link.specs.declared.Pid.{Pid}
use Rattle.dm_link.specs.Names.{pid_eq}
use Rattle.dm_message.specs.declared.MsgId.{MsgId}
use Rattle.dm_message.specs.declared.Message.{Message}
use Rattle.dm_onekernel.specs.declared.boot.Format.{Format}
use Rattle.dm_onekernel.specs.declared.boot.BootImage.{BootImage}
use Rattle.dm_onekernel.specs.declared.label.Label.{Label}
use Rattle.dm_onekernel.specs.declared.label.Label.TheVariants as label
use Rattle.dm_law_places.specs.Placed.{Placed}
use Rattle.dm_law_places.specs.PlacedStep.{placed_step, with_sent, without_message}

-- the process that a label changes, makes or ends
abbrev pub receiver_in : Option Message → Option Pid
receiver_in o = option_map (λ (m : Message). m.to.pid) o

abbrev pub changed : Placed → Label → Option Pid
changed l (label.Ran p k) = Some p
changed l (label.Call p n c) = Some p
changed l (label.Send p id) = Some p
changed l (label.Wait p) = Some p
changed l (label.Out p w) = Some p
changed l (label.End p y) = Some p
changed l (label.Receive p id) = Some p
changed l (label.Refuse p id c) = Some p
changed l (label.Dropped id) = None
changed l (label.Served id) = receiver_in (l.bag id)
changed l (label.Gone id) = None
changed l (label.Took id) = None
changed l (label.Created id child) = Some child
changed l (label.NoSpace id slots blocks) = None
changed l (label.Asked id) = None
changed l (label.Answered id o) = None

abbrev pub is_named : Option Pid → Pid → Bool
is_named None q = false
is_named (Some p) q = pid_eq p q

-- the message that it takes
abbrev pub taken : Label → Option MsgId
taken (label.Ran p k) = None
taken (label.Call p n c) = None
taken (label.Send p id) = None
taken (label.Wait p) = None
taken (label.Out p w) = None
taken (label.End p y) = None
taken (label.Receive p id) = Some id
taken (label.Refuse p id c) = None
taken (label.Dropped id) = Some id
taken (label.Served id) = Some id
taken (label.Gone id) = Some id
taken (label.Took id) = Some id
taken (label.Created id child) = Some id
taken (label.NoSpace id slots blocks) = Some id
taken (label.Asked id) = Some id
taken (label.Answered id o) = None

abbrev pub taken_out : Placed → Option MsgId → Placed
taken_out l None = l
taken_out l (Some id) = without_message l id

-- a server takes a message
abbrev pub is_took : Label → Bool
is_took (label.Ran p k) = false
is_took (label.Call p n c) = false
is_took (label.Send p id) = false
is_took (label.Wait p) = false
is_took (label.Out p w) = false
is_took (label.End p y) = false
is_took (label.Receive p id) = false
is_took (label.Refuse p id c) = false
is_took (label.Dropped id) = false
is_took (label.Served id) = false
is_took (label.Gone id) = false
is_took (label.Took id) = true
is_took (label.Created id child) = false
is_took (label.NoSpace id slots blocks) = false
is_took (label.Asked id) = false
is_took (label.Answered id o) = false

-- a process begins to follow a request to move, or has followed it
abbrev pub is_note : Label → Bool
is_note (label.Asked id) = true
is_note (label.Answered id o) = true
is_note e = false

pub record Changes (l : Placed) (e : Label) (m : Placed) : Type 0 where
  pub processes : (q : Pid) → is_named (changed l e) q ≡ false → m.processes q ≡ l.processes q
  -- the message that the step sends, if any
  pub sent : Option Message
  pub bag : (i : MsgId) → m.bag i ≡ (with_sent (taken_out l (taken e)) sent).bag i
  pub board : is_took e ≡ false → m.board ≡ l.board
  pub manager : is_took e ≡ false → m.manager ≡ l.manager
  pub notes : is_note e ≡ false → (q : Pid) → m.notes q ≡ l.notes q
  pub noted : is_note e ≡ false → (i : MsgId) → m.noted i ≡ l.noted i

abbrev pub StepsChangeLittle : Type 0
StepsChangeLittle = (here : ℕ) (f : Format) (images : List BootImage) (l m : Placed) (e : Label) → placed_step here f images l e ≡ Some m → Changes l e m
