-- How far the migration of each process and each server has come: what every machine knows of it, which one message of the protocol is under way, and
-- what is left over of migrations that were called off.
use Rattle.std.specs.Prelude.{◌≡◌, ◌⊎◌, ⊤, ℕ, ◌≤◌, ◌<◌, Bool, true, false, not, ◌==◌, ◌&&◌, ◌||◌, if◌then◌else◌}
use Rattle.std.specs.declared.option.Option.{Option}
use Rattle.std.specs.declared.option.Option.TheVariants.{None, Some}
use Rattle.dm_link.specs.declared.Pid.{Pid}
use Rattle.dm_link.specs.Names.{pid_of}
use Rattle.dm_message.specs.declared.MsgId.{MsgId}
use Rattle.dm_message.specs.declared.kind.MessageKind.{MessageKind}
use Rattle.dm_message.specs.declared.kind.MessageKind.TheVariants as kind
use Rattle.dm_message.specs.Sorts.{Sort, sort_of, pulls_piece, brings_piece}
use Rattle.dm_message.specs.Sorts as sort
use Rattle.dm_law_rule.specs.View.{View, Told, Of, Known, Unknown, Here, Frozen, Incoming, Forward, is_kernels}
pub use Rattle.dm_law_rule.specs.View.{is_here, tells_calloff, is_calloff}
use Rattle.dm_law_rule.specs.Spots.{Spot, Inbox, Untaken, standing}

-- what the kernels of two machines tell each other while a process moves from the source to the destination
abbrev pub tells_between : Sort → Bool
tells_between (sort.Between s) = true
tells_between s = false

abbrev pub is_between : MessageKind → Bool
is_between k = tells_between (sort_of k)

-- of these, what the source says
abbrev pub tells_onward : Sort → Bool
tells_onward (sort.Between sort.Ask) = true
tells_onward (sort.Between sort.State) = true
tells_onward (sort.Between sort.Memory) = true
tells_onward (sort.Between sort.Restart) = true
tells_onward s = false

-- a process was never made, rests on a machine, has ended, and the machine where it did has forgotten it, or moves: the kind of the
-- message that is under way, and its name once it was put
pub data Phase : Type 0 where
  Nowhere : Phase
  Rests : (at : ℕ) → Phase
  Over : (at : ℕ) → Phase
  Moves : (kind : MessageKind) → (source : ℕ) → (destination : ℕ) → (id : Option MsgId) → Phase

-- a machine has a process or a server, or holds it back
abbrev pub has_it : Known → Bool
has_it Unknown = false
has_it Here = true
has_it (Frozen to) = true
has_it (Incoming from) = false
has_it (Forward at moves) = false

-- a process isn't on this machine: it knows nothing of it, or only where it went
abbrev pub is_away : Known → Bool
is_away Unknown = true
is_away (Forward at moves) = true
is_away k = false

-- it knows nothing of it
abbrev pub is_unknown : Known → Bool
is_unknown Unknown = true
is_unknown k = false

-- the message that lets the destination restart the process
abbrev pub tells_restart : Sort → Bool
tells_restart (sort.Between sort.Restart) = true
tells_restart s = false

abbrev pub is_restart : MessageKind → Bool
is_restart k = tells_restart (sort_of k)

-- the destination hasn't accepted
abbrev pub tells_early : Sort → Bool
tells_early (sort.Between sort.Ask) = true
tells_early (sort.Between sort.Refuse) = true
tells_early s = false

abbrev pub is_early : MessageKind → Bool
is_early k = tells_early (sort_of k)

-- the source holds the process until the destination may restart it, and then forwards
abbrev pub kind_leaves : MessageKind → ℕ → Known → Bool
kind_leaves k to (Frozen m) = not (is_restart k) && (to == m)
kind_leaves k to (Forward m moves) = is_restart k && (to == m)
kind_leaves k to known = false

-- the destination expects it once it has accepted, and forwards to the source where it has called it off
abbrev pub kind_comes : MessageKind → ℕ → Known → Bool
kind_comes k from (Incoming m) = not (is_early k) && (not (is_calloff k) && (from == m))
kind_comes k from Unknown = is_early k
kind_comes k from (Forward m moves) = is_early k || (is_calloff k && (from == m))
kind_comes k from known = false

-- what a machine may know of a process in this phase
abbrev pub knows : Phase → ℕ → Known → Bool
knows Nowhere m k = is_unknown k
knows (Rests at) m k = if at == m then is_here k else is_away k
knows (Over at) m k = if at == m then is_unknown k else is_away k
knows (Moves kind s d id) m k = if s == m then kind_leaves kind d k else if d == m then kind_comes kind s k else is_away k

-- where the message goes from and to
abbrev pub sender_in : MessageKind → ℕ → ℕ → ℕ
sender_in k s d = if tells_onward (sort_of k) then s else d

abbrev pub receiver_in : MessageKind → ℕ → ℕ → ℕ
receiver_in k s d = if tells_onward (sort_of k) then d else s

-- the next message about the process isn't put yet: so only between the lines of a group
abbrev pub is_due : Phase → Bool
is_due Nowhere = false
is_due (Rests at) = false
is_due (Over at) = false
is_due (Moves kind s d None) = true
is_due (Moves kind s d (Some id)) = false

abbrev pub token_in : Phase → Option MsgId
token_in Nowhere = None
token_in (Rests at) = None
token_in (Over at) = None
token_in (Moves kind s d id) = id

abbrev pub told_between : Pid → MessageKind → ℕ → ℕ → Told
told_between p k s d = record { kind = k; receiver = pid_of (receiver_in k s d) 0; about = Of p }

-- the one message: what was told of it, whose it is, and where it stands
pub record IsToken (v : View) (p : Pid) (k : MessageKind) (s d : ℕ) (id : MsgId) : Type 0 where
  pub told : v.told id ≡ Some (told_between p k s d)
  pub from : id.from ≡ pid_of (sender_in k s d) 0
  pub spot : Spot
  pub stands : 1 ≤ standing v id spot
  pub ways : (z : Spot) → 1 ≤ standing v id z → (z ≡ Inbox (receiver_in k s d)) ⊎ (z ≡ Untaken (sender_in k s d) (receiver_in k s d))

abbrev pub HasToken : View → Pid → Phase → Type 0
HasToken v p Nowhere = ⊤
HasToken v p (Rests at) = ⊤
HasToken v p (Over at) = ⊤
HasToken v p (Moves k s d None) = ⊤
HasToken v p (Moves k s d (Some id)) = IsToken v p k s d id

-- a message of one machine's kernel to another's, and where it may stand
pub record IsWay (v : View) (i : MsgId) (from to : ℕ) : Type 0 where
  pub sender : i.from ≡ pid_of from 0
  pub own : is_kernels i ≡ true
  pub ways : (z : Spot) → 1 ≤ standing v i z → (z ≡ Inbox to) ⊎ (z ≡ Untaken from to)

-- put before this one, if that was put
abbrev pub IsBefore : MsgId → Option MsgId → Type 0
IsBefore i None = ⊤
IsBefore i (Some j) = i.n < j.n

-- what is left over of a migration that was called off: what asks for a piece, until the source hears that it is called off; or a
-- piece, until the destination says that it is stale. Where the destination has accepted again by then, that is by a later message
pub data IsLeft (v : View) (p : Pid) (phase : Phase) (i : MsgId) (t : Told) : Type 0 where
  Asks : (s d : ℕ) → (j : Option MsgId) → pulls_piece (sort_of t.kind) ≡ true → t ≡ told_between p t.kind s d → IsWay v i d s → phase ≡ Moves kind.CallOff s d j → IsBefore i j → IsLeft v p phase i t
  Comes : (s d : ℕ) → brings_piece (sort_of t.kind) ≡ true → t ≡ told_between p t.kind s d → IsWay v i s d → (v.known d p ≡ Incoming s → ⊥)
      → ((j : Option MsgId) → phase ≡ Moves kind.Ask s d j → IsBefore i j) → IsLeft v p phase i t

-- each message of the protocol about this process that stands anywhere is the one that is under way, or is left over
abbrev pub Alone : View → Pid → Phase → Type 0
Alone v p phase = (i : MsgId) (t : Told) (z : Spot) → v.told i ≡ Some t → is_between t.kind ≡ true → t.about ≡ Of p → 1 ≤ standing v i z → (token_in phase ≡ Some i) ⊎ IsLeft v p phase i t

abbrev pub is_apart : Phase → Bool
is_apart Nowhere = true
is_apart (Rests at) = true
is_apart (Over at) = true
is_apart (Moves k s d id) = is_between k && not (s == d)

-- whether all of the process has come, where what is under way says so
abbrev pub tells_come : Sort → Option Bool
tells_come (sort.Between sort.PullState) = Some false
tells_come (sort.Between sort.State) = Some false
tells_come (sort.Between sort.PullBlock) = Some false
tells_come (sort.Between sort.Memory) = Some false
tells_come (sort.Between sort.AllTaken) = Some true
tells_come (sort.Between sort.Restart) = Some true
tells_come (sort.Between sort.CallOff) = Some false
tells_come s = None

abbrev pub HasCome : Option Bool → Bool → Type 0
HasCome None come = ⊤
HasCome (Some told) come = come ≡ told

abbrev pub ComesIn : Phase → Bool → Type 0
ComesIn (Moves k s d id) come = HasCome (tells_come (sort_of k)) come
ComesIn Nowhere come = ⊤
ComesIn (Rests at) come = ⊤
ComesIn (Over at) come = ⊤

-- a process is in this phase
pub record IsIn (v : View) (p : Pid) (phase : Phase) : Type 0 where
  pub known : (m : ℕ) → knows phase m (v.known m p) ≡ true
  pub token : HasToken v p phase
  pub alone : Alone v p phase
  pub apart : is_apart phase ≡ true
  pub come : ComesIn phase (v.come p)
