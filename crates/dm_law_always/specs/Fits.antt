-- What fits in the kernel without machines: a link leads to a server or a process, whose memory has its area; a data move
-- lies within the memories of both; and each message is of a kind that its receiver can take.
use Rattle.std.specs.Prelude.{◌≡◌, ⊤, ℕ, ◌+◌, Bool, true, false, not, ◌==◌, ◌&&◌, ◌||◌, nat_le, nat_lt, is_some, List, [], ◌∷◌, length}
use Rattle.std.specs.declared.option.Option.{Option}
use Rattle.std.specs.declared.option.Option.TheVariants.{None, Some}
use Rattle.dm_link.specs.declared.Area.{Area}
use Rattle.dm_link.specs.declared.Pid.{Pid}
use Rattle.dm_link.specs.Plain.{PlainLink}
use Rattle.dm_message.specs.declared.MsgId.{MsgId}
use Rattle.dm_message.specs.Plain as what
use Rattle.dm_message.specs.Plain.{PlainMessage, PlainWhat}
use Rattle.dm_process.specs.declared.process.Direction.{Direction}
use Rattle.dm_process.specs.declared.process.Direction.TheVariants as direction
use Rattle.dm_onekernel.specs.Boot.{manager}
use Rattle.dm_onekernel.specs.PlainProcess.{PlainProcess, PlainStatus, Ready, Waiting, Moving}
use Rattle.dm_onekernel.specs.declared.request.PendingKind.{PendingKind}
use Rattle.dm_onekernel.specs.declared.request.PendingKind.TheVariants as wanted
use Rattle.dm_onekernel.specs.Kernel.{Alive, Ended, Life, MoveNote, NamedLink, OneKernel, Pending}
use Rattle.dm_onekernel.specs.Manager as manage
use Rattle.dm_onekernel.specs.Pieces.{piece_of}
pub use Rattle.dm_law_rule.specs.Trails.{is_server}

-- each element is one of these
abbrev pub Each : {X : Type 0} → (X → Type 0) → List X → Type 0
Each P [] = ⊤
Each P (x ∷ xs) = P x × Each P xs

-- the processes by name
abbrev pub Lives : Type 0
Lives = Pid → Option Life

-- a process that was made, with so many bytes of memory as long as it lives
abbrev pub has_bytes : ℕ → Option Life → Bool
has_bytes n None = false
has_bytes n (Some (Alive x)) = nat_le n (length x.memory)
has_bytes n (Some (Ended because)) = true

-- user messages are for servers and for processes that were made
abbrev pub takes_users : Lives → Pid → Bool
takes_users ps p = is_server p || has_bytes 0 (ps p)

-- a link to a server gives no right, and one to a process has its area in its memory
abbrev pub gives_no_right : Area → Bool
gives_no_right a = not a.read && not a.write

abbrev pub link_fits : Lives → PlainLink → Bool
link_fits ps l = (is_server l.to && gives_no_right l.area) || has_bytes (l.area.base + l.area.len) (ps l.to)

abbrev pub LinkFits : Lives → PlainLink → Type 0
LinkFits ps l = link_fits ps l ≡ true

abbrev pub SlotFits : Lives → Option PlainLink → Type 0
SlotFits ps None = ⊤
SlotFits ps (Some l) = LinkFits ps l

-- what a data move has left lies within the owner's memory and its own
abbrev pub move_fits : Lives → PlainProcess → PlainStatus → Bool
move_fits ps x Ready = true
move_fits ps x (Waiting mask base size) = true
move_fits ps x (Moving dir owner base own left pending) = has_bytes (base + left) (ps owner) && nat_le (own + left) (length x.memory)

pub record ProcessFits (ps : Lives) (x : PlainProcess) : Type 0 where
  pub slots : Each (SlotFits ps) x.links
  pub move : move_fits ps x x.status ≡ true

-- the request for the next piece of a data move with so much left, or the answer to it
abbrev pub piece_fits : Direction → ℕ → PlainWhat → Bool
piece_fits direction.FromArea left (what.Read base len) = len == piece_of left
piece_fits direction.FromArea left (what.Block bytes) = length bytes == piece_of left
piece_fits direction.FromArea left what.Gone = true
piece_fits direction.IntoArea left (what.Write base bytes) = true
piece_fits direction.IntoArea left what.Written = true
piece_fits direction.IntoArea left what.Gone = true
piece_fits dir left w = false

abbrev pub status_awaits : PlainStatus → ℕ → PlainWhat → Bool
status_awaits Ready n w = false
status_awaits (Waiting mask base size) n w = false
status_awaits (Moving dir owner base own left pending) n w = (n == pending) && piece_fits dir left w

-- a process whose data move is at this request or answer, or one that has ended
abbrev pub awaits : Option Life → ℕ → PlainWhat → Bool
awaits None n w = false
awaits (Some (Alive x)) n w = status_awaits x.status n w
awaits (Some (Ended because)) n w = true

-- there is a request, of this kind
abbrev pub kind_eq : PendingKind → PendingKind → Bool
kind_eq wanted.Create wanted.Create = true
kind_eq wanted.Create wanted.Move = false
kind_eq wanted.Move wanted.Create = false
kind_eq wanted.Move wanted.Move = true

abbrev pub is_for : PendingKind → Option Pending → Bool
is_for kind None = false
is_for kind (Some r) = kind_eq kind r.kind

-- a request of this kind that the manager has sent and that has no taken answer
pub record IsPending (s : OneKernel) (kind : PendingKind) (i : MsgId) : Type 0 where
  pub from : i.from ≡ manager
  pub pending : is_for kind (manage.pending_numbered i.n s.manager.pending) ≡ true

-- a message of the bag under its name, a row a kind
abbrev pub WhatFits : OneKernel → MsgId → PlainMessage → PlainWhat → Type 0
WhatFits s i m (what.User code channel body links) = (takes_users s.processes m.to ≡ true) × Each (LinkFits s.processes) links
WhatFits s i m what.Stop = has_bytes 0 (s.processes m.to) ≡ true
WhatFits s i m what.Resume = has_bytes 0 (s.processes m.to) ≡ true
WhatFits s i m what.Kill = has_bytes 0 (s.processes m.to) ≡ true
WhatFits s i m (what.Read base len) =
    (has_bytes (base + len) (s.processes m.to) ≡ true) × (awaits (s.processes i.from) i.n (what.Read base len) ≡ true)
WhatFits s i m (what.Write base bytes) =
    (has_bytes (base + length bytes) (s.processes m.to) ≡ true) × (awaits (s.processes i.from) i.n (what.Write base bytes) ≡ true)
WhatFits s i m (what.Block bytes) = (m.to ≡ i.from) × (awaits (s.processes i.from) i.n (what.Block bytes) ≡ true)
WhatFits s i m what.Written = (m.to ≡ i.from) × (awaits (s.processes i.from) i.n what.Written ≡ true)
WhatFits s i m what.Gone = (m.to ≡ i.from) × (awaits (s.processes i.from) i.n what.Gone ≡ true)
WhatFits s i m (what.Create image links) =
    (m.to.num ≡ 0) × (nat_lt m.to.home s.machines ≡ true) × (nat_lt image (length s.images) ≡ true) × (m.sender ≡ manager) × (i.answer ≡ false) × IsPending s wanted.Create i × Each (LinkFits s.processes) links
WhatFits s i m (what.Created child) = (m.to ≡ manager) × (i.answer ≡ true) × IsPending s wanted.Create i × (has_bytes 0 (s.processes child) ≡ true)
WhatFits s i m what.NoRoom = (m.to ≡ manager) × (i.answer ≡ true) × IsPending s wanted.Create i
WhatFits s i m (what.Move machine) =
    (has_bytes 0 (s.processes m.to) ≡ true) × (nat_lt machine s.machines ≡ true) × (m.sender ≡ manager) × (i.answer ≡ false) × IsPending s wanted.Move i
WhatFits s i m (what.Moved outcome) = (m.to ≡ manager) × (i.answer ≡ true) × IsPending s wanted.Move i

-- a request to move that a process follows is the manager's, and has no taken answer
pub record NoteFits (s : OneKernel) (n : MoveNote) : Type 0 where
  pub asker : n.asker ≡ manager
  pub unanswered : n.id.answer ≡ false
  pub pending : IsPending s wanted.Move n.id

-- the link for the answer to a pending request; one to make a process has it
pub record PendingFits (ps : Lives) (r : Pending) : Type 0 where
  pub answer : SlotFits ps r.answer
  pub making : r.kind ≡ wanted.Create → is_some r.answer ≡ true

-- all of it
pub record KernelFits (s : OneKernel) : Type 0 where
  pub processes : (p : Pid) (x : PlainProcess) → s.processes p ≡ Some (Alive x) → ProcessFits s.processes x
  pub messages : (i : MsgId) (m : PlainMessage) → s.bag i ≡ Some m → WhatFits s i m m.what
  pub names : Each (λ (k : NamedLink). LinkFits s.processes k.link) s.switchboard.names
  pub answers : Each (PendingFits s.processes) s.manager.pending
  pub notes : (p : Pid) (n : MoveNote) → s.notes p ≡ Some n → NoteFits s n
  pub children : Each (λ (p : Pid). has_bytes 0 (s.processes p) ≡ true) s.manager.children
