-- Only connectivity begets connectivity: sides of processes that nothing crosses.
use Rattle.std.specs.Prelude.{◌≡◌, ◌⊎◌, ⊤, ℕ, Bool, true, ◌==◌, ◌||◌, nat_lt, is_some, if◌then◌else◌, List, [], ◌∷◌}
use Rattle.std.specs.Option.{option_map_or}
use Rattle.std.specs.declared.option.Option.{Option}
use Rattle.std.specs.declared.option.Option.TheVariants.{None, Some}
use Rattle.dm_link.specs.declared.Pid.{Pid}
use Rattle.dm_link.specs.Names.{pid_eq}
use Rattle.dm_link.specs.Plain.{PlainLink}
use Rattle.dm_message.specs.declared.MsgId.{MsgId}
use Rattle.dm_message.specs.Plain as what
use Rattle.dm_message.specs.Plain.{PlainMessage, PlainWhat}
use Rattle.dm_onekernel.specs.declared.boot.Boot.{Boot}
use Rattle.dm_onekernel.specs.declared.label.Label.{Label}
use Rattle.dm_onekernel.specs.declared.label.Label.TheVariants as label
use Rattle.dm_onekernel.specs.Boot.{IsValid, switchboard, manager}
use Rattle.dm_onekernel.specs.PlainProcess.{PlainProcess, PlainStatus, Ready, Waiting, Moving}
use Rattle.dm_onekernel.specs.Kernel.{Alive, MoveNote, NamedLink, Pending, OneKernel}
use Rattle.dm_onekernel.specs.Manager.{child_numbered}
use Rattle.dm_onekernel.specs.Start.{start}
use Rattle.dm_onekernel.specs.Step.{step, replay}
use Rattle.dm_law_always.specs.Fits.{Each}

-- a side for each process and for the switchboard, and for each of the manager's messages by its number
pub record Sides : Type 0 where
  pub of : Pid → ℕ
  pub told : ℕ → ℕ

-- a message's side is that of the one whose name it has, so an answer's is its request's. A message of the manager's has that of
-- the message which the manager took then
abbrev pub side_of : Sides → MsgId → ℕ
side_of k id = if pid_eq id.from manager then k.told id.n else k.of id.from

-- what a step puts on a side: the message that the manager would send now, and a process that is made, both on that of the message
-- that asked
abbrev pub next_sides : OneKernel → Label → Sides → Sides
next_sides s (label.Took id) k = record { of = k.of; told = λ n. if n == s.manager.sent then side_of k id else k.told n }
next_sides s (label.Created id child) k = record { of = λ p. if pid_eq child p then side_of k id else k.of p; told = k.told }
next_sides s (label.Ran p n) k = k
next_sides s (label.Call p n c) k = k
next_sides s (label.Send p id) k = k
next_sides s (label.Wait p) k = k
next_sides s (label.Out p w) k = k
next_sides s (label.End p y) k = k
next_sides s (label.Receive p id) k = k
next_sides s (label.Refuse p id c) k = k
next_sides s (label.Dropped id) k = k
next_sides s (label.Served id) k = k
next_sides s (label.Gone id) k = k
next_sides s (label.NoSpace id slots blocks) k = k
next_sides s (label.Asked id) k = k
next_sides s (label.Answered id o) k = k

-- the sides after these steps
abbrev pub sides_after : OneKernel → List Label → Sides → Sides
sides_after s [] k = k
sides_after s (l ∷ ls) k = option_map_or (λ t. sides_after t ls (next_sides s l k)) (step s l) k

-- the switchboard, or a process that was made
abbrev pub is_there : OneKernel → Pid → Bool
is_there s p = pid_eq p switchboard || is_some (s.processes p)

-- it is there, on this side. The name of a process that is still to be made stands nowhere, then
abbrev pub IsOn : OneKernel → Sides → ℕ → Pid → Type 0
IsOn s k i p = (k.of p ≡ i) × (is_there s p ≡ true)

-- whom a link with this receiver and code reaches: a control link, which leads to the manager, reaches the child that its code names
abbrev pub reached : OneKernel → Pid → ℕ → Option Pid
reached s to code = if pid_eq to manager then child_numbered s.manager.children code else Some to

-- such a link keeps to a side: whom it reaches is on it; or it leads to the manager with code 0 and reaches nobody, since what
-- is made over it will be on the side of the one that asks
abbrev pub LinkKeeps : OneKernel → Sides → ℕ → Pid → ℕ → Type 0
LinkKeeps s k i to code = ((to ≡ manager) × (code ≡ 0)) ⊎ ((q : Pid) × (reached s to code ≡ Some q) × IsOn s k i q)

abbrev pub Keeping : OneKernel → Sides → ℕ → PlainLink → Type 0
Keeping s k i l = LinkKeeps s k i l.to l.code

abbrev pub MaybeKeeping : OneKernel → Sides → ℕ → Option PlainLink → Type 0
MaybeKeeping s k i None = ⊤
MaybeKeeping s k i (Some l) = Keeping s k i l

-- a process that moves data moves it from or to an area of its own side
abbrev pub AreaKeeps : OneKernel → Sides → ℕ → PlainStatus → Type 0
AreaKeeps s k i Ready = ⊤
AreaKeeps s k i (Waiting mask base cap) = ⊤
AreaKeeps s k i (Moving dir owner base own left pending) = IsOn s k i owner

-- what the manager asks or tells of its own accord
abbrev pub IsOrder : PlainMessage → Type 0
IsOrder m = (m.sender ≡ manager) × (m.id.from ≡ manager)

-- an answer to what the manager asked
abbrev pub IsAnswer : PlainMessage → Type 0
IsAnswer m = (m.to ≡ manager) × (m.id.from ≡ manager)

-- an order about a process of this side
abbrev pub OrderKeeps : OneKernel → Sides → ℕ → PlainMessage → Type 0
OrderKeeps s k i m = IsOrder m × IsOn s k i m.to

-- a request for a piece of memory, or the answer: both of its ends are on this side
abbrev pub PieceKeeps : OneKernel → Sides → ℕ → PlainMessage → Type 0
PieceKeeps s k i m = IsOn s k i m.sender × IsOn s k i m.to

-- a message keeps to a side, a row a kind
abbrev pub MessageKeeps : OneKernel → Sides → ℕ → PlainMessage → PlainWhat → Type 0
MessageKeeps s k i m (what.User code channel body links) =
    ((m.sender ≡ manager) ⊎ IsOn s k i m.sender) × LinkKeeps s k i m.to code × Each (Keeping s k i) links
MessageKeeps s k i m what.Stop = OrderKeeps s k i m
MessageKeeps s k i m what.Resume = OrderKeeps s k i m
MessageKeeps s k i m what.Kill = OrderKeeps s k i m
MessageKeeps s k i m (what.Move machine) = OrderKeeps s k i m
MessageKeeps s k i m (what.Read base len) = PieceKeeps s k i m
MessageKeeps s k i m (what.Write base bytes) = PieceKeeps s k i m
MessageKeeps s k i m (what.Block bytes) = PieceKeeps s k i m
MessageKeeps s k i m what.Written = PieceKeeps s k i m
MessageKeeps s k i m what.Gone = PieceKeeps s k i m
MessageKeeps s k i m (what.Create image links) = IsOrder m × Each (Keeping s k i) links
MessageKeeps s k i m (what.Created child) = IsAnswer m × IsOn s k i child
MessageKeeps s k i m what.NoRoom = IsAnswer m
MessageKeeps s k i m (what.Moved outcome) = IsAnswer m

-- a name keeps to the switchboard's side
abbrev pub NameKeeps : OneKernel → Sides → NamedLink → Type 0
NameKeeps s k e = Keeping s k (k.of switchboard) e.link

-- a request that is pending was sent, and the link for its answer keeps to its side
abbrev pub RequestKeeps : OneKernel → Sides → Pending → Type 0
RequestKeeps s k r = MaybeKeeping s k (k.told r.n) r.answer × (nat_lt r.n s.manager.sent ≡ true)

-- a process that follows a request to move is on the side of that request, which the manager has sent
abbrev pub NoteKeeps : OneKernel → Sides → Pid → MoveNote → Type 0
NoteKeeps s k p n = IsOn s k (side_of k n.id) p × (n.asker ≡ manager) × (n.id.from ≡ manager) × (nat_lt n.id.n s.manager.sent ≡ true)

-- everything keeps to its side: a field for each place where a link or a name can stand
pub record Keeps (s : OneKernel) (k : Sides) : Type 0 where
  pub links : (p : Pid) (x : PlainProcess) → s.processes p ≡ Some (Alive x) → Each (MaybeKeeping s k (k.of p)) x.links
  pub areas : (p : Pid) (x : PlainProcess) → s.processes p ≡ Some (Alive x) → AreaKeeps s k (k.of p) x.status
  pub messages : (id : MsgId) (m : PlainMessage) → s.bag id ≡ Some m → MessageKeeps s k (side_of k m.id) m m.what
  pub names : Each (NameKeeps s k) s.switchboard.names
  pub requests : Each (RequestKeeps s k) s.manager.pending
  pub notes : (p : Pid) (n : MoveNote) → s.notes p ≡ Some n → NoteKeeps s k p n

-- in whatever way sides are given: where everything keeps to its side at the start, where only the boot file's links are, so it does
-- after every run
abbrev pub KeepsToSides : Type 0
KeepsToSides = (b : Boot) (ls : List Label) (s : OneKernel) (k : Sides) → IsValid b → Keeps (start b) k → replay (start b) ls ≡ Some s → Keeps s (sides_after (start b) ls k)
