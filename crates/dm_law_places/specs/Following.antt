-- What mirrors a point, and what lines of migration make of its messages.
use Rattle.std.specs.Prelude.{◌≡◌, ◌⊎◌, ⊤, ℕ, ◌+◌, ◌||◌, Bool, true, false, if◌then◌else◌, List, [], ◌∷◌, option_map}
use Rattle.std.specs.declared.option.Option.TheVariants.{None, Some}
use Rattle.dm_link.specs.declared.Pid.{Pid}
use Rattle.dm_link.specs.Names.{pid_eq}
use Rattle.dm_message.specs.declared.MsgId.{MsgId}
use Rattle.dm_process.specs.declared.process.Process.{Process}
use Rattle.dm_law_rule.specs.Trails.{is_made}
use Rattle.dm_message.specs.Ids.{id_eq, id_of}
use Rattle.dm_message.specs.Plain as what
use Rattle.dm_message.specs.Plain.{PlainMessage}
use Rattle.dm_migrate.specs.Departure.{sent_on}
use Rattle.dm_onekernel.specs.Boot.{manager, switchboard}
use Rattle.dm_onekernel.specs.Kernel.{OneKernel}
use Rattle.dm_onekernel.specs.Step as kernel
use Rattle.dm_line.specs.declared.line.Line.{Line}
use Rattle.dm_line.specs.declared.line.Line.TheVariants as line
use Rattle.dm_law_rule.specs.Homes.{ascends}
use Rattle.dm_law_rule.specs.View.{own_id}
use Rattle.dm_law_rule.specs.Point.{Point, after_line}
use Rattle.dm_law_places.specs.Placed.{Placed, Mirrors}
use Rattle.dm_law_places.specs.Laws.{KeepsPlaces, StepNeeds}

abbrev pub MirrorsPoint : Point → Placed → Type 0
MirrorsPoint pt l = Mirrors pt.kernel pt.view pt.addresses l

-- one of these messages
abbrev pub is_among : MsgId → List MsgId → Bool
is_among i [] = false
is_among i (j ∷ js) = id_eq j i || is_among i js

-- these messages go on to where their receiver is after so many moves
abbrev pub sent_all : Placed → ℕ → ℕ → List MsgId → Placed
sent_all l at moves ids = record l { bag = λ i. if is_among i ids then option_map (sent_on at moves) (l.bag i) else l.bag i }

-- behind step 8 a process or a server has moved once more
abbrev pub once_more : Process → Process
once_more x = record x { moves = x.moves + 1 }

abbrev pub moved_on : Placed → Pid → Placed
moved_on l p =
    if pid_eq p switchboard then record l { board = record l.board { moves = l.board.moves + 1 } }
    else if pid_eq p manager then record l { manager = record l.manager { moves = l.manager.moves + 1 } }
    else record l { processes = λ q. if pid_eq p q then option_map once_more (l.processes q) else l.processes q }

-- the servers are no processes
abbrev pub ServersApart : OneKernel → Type 0
ServersApart s = (kernel.alive (s.processes switchboard) ≡ None) × (kernel.alive (s.processes manager) ≡ None)

-- what a line needs, so that there is a kernel with places behind it: a label what its step needs; a message that gets places
-- where it is put isn't one of the kernel's, nor is the next one of the acting machine's kernel
abbrev pub LineNeeds : Point → Line → Type 0
LineNeeds pt (line.Label e) = StepNeeds pt.kernel pt.view e
LineNeeds pt (line.Put from to id k q) = KeepsPlaces pt (line.Put from to id k q) ⊎ (pt.kernel.bag id ≡ None)
LineNeeds pt (line.Forwarded id m) = pt.kernel.bag (own_id pt.view) ≡ None
LineNeeds pt (line.Updated id n) = ServersApart pt.kernel
LineNeeds pt (line.Buried id n) = ⊤
LineNeeds pt (line.Head d) = ⊤
LineNeeds pt (line.Idle m) = ⊤
LineNeeds pt (line.Packet from to k l) = ⊤
LineNeeds pt (line.Taken from to n) = ⊤
LineNeeds pt (line.Old from to n) = ⊤
LineNeeds pt (line.Early from to n) = ⊤
LineNeeds pt (line.Acked from to n) = ⊤
LineNeeds pt line.Nothing = ⊤
LineNeeds pt (line.Resent m n) = ⊤
LineNeeds pt (line.Queued id) = ⊤
LineNeeds pt (line.Held id) = ⊤
LineNeeds pt (line.Migration step p) = ⊤
LineNeeds pt (line.SentOn p n) = ⊤
LineNeeds pt (line.Called p n) = ⊤
LineNeeds pt (line.Lacks p slots blocks) = ⊤
LineNeeds pt (line.Stays p) = ⊤
LineNeeds pt (line.Here id) = ⊤
LineNeeds pt (line.NoMove id) = ⊤
LineNeeds pt (line.Stale id) = ⊤
LineNeeds pt (line.Proto id) = ⊤
LineNeeds pt (line.NoChild p) = ⊤
LineNeeds pt (line.NoCall p) = ⊤
LineNeeds pt line.Away = ⊤

abbrev pub LinesNeed : Point → List Line → Type 0
LinesNeed pt [] = ⊤
LinesNeed pt (x ∷ xs) = LineNeeds pt x × ((next : Point) → after_line pt x ≡ Some next → LinesNeed next xs)

-- where a group begins: the manager's requests stand in the order in which it sent them, what was never made has never moved, but for
-- the servers; a request to move is one of the manager's messages
pub record GroupNeeds (pt : Point) : Type 0 where
  pub pending : ascends 0 pt.kernel.manager.pending pt.kernel.manager.sent ≡ true
  pub unmoved : (p : Pid) → is_made pt.kernel p ≡ false → pt.view.moves p ≡ 0
  pub asks : (i : MsgId) (x : PlainMessage) (machine : ℕ) → pt.kernel.bag i ≡ Some x → x.what ≡ what.Move machine → i ≡ id_of manager i.n
