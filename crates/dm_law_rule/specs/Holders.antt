-- What has an address, and which address each has.
use Rattle.std.specs.Prelude.{ℕ, ◌==◌, Bool, true, false, ◌&&◌, if◌then◌else◌, List, [], ◌∷◌}
use Rattle.dm_link.specs.declared.Pid.{Pid}
use Rattle.dm_link.specs.Names.{Place, pid_eq}
use Rattle.dm_message.specs.declared.MsgId.{MsgId}
use Rattle.dm_message.specs.Ids.{id_eq}
use Rattle.dm_law_rule.specs.View.{View}

-- what has an address: a link in a slot, the owner in a data move, a message's receiver, its sender and its links, the
-- manager's link to a child, the switchboard's link at a place of its list, the link for the answer to a request of the
-- manager's, who asked a process to move that follows that request, where the manager knows the switchboard to be
pub data Holder : Type 0 where
  Slot : (process : Pid) → (slot : ℕ) → Holder
  Owner : (process : Pid) → Holder
  Receiver : (id : MsgId) → Holder
  Sender : (id : MsgId) → Holder
  Enclosed : (id : MsgId) → (place : ℕ) → Holder
  Child : (number : ℕ) → Holder
  Name : (place : ℕ) → Holder
  Answer : (n : ℕ) → Holder
  AskedBy : (process : Pid) → Holder
  ToBoard : Holder

-- for each of these the machine that its address names, and how often the process had moved that it knows of
abbrev pub Addresses : Type 0
Addresses = Holder → Place

-- two holders are the same: of one sort, and of the same process, message, number or place
abbrev pub holder_eq : Holder → Holder → Bool
holder_eq (Slot p k) (Slot q l) = pid_eq p q && (k == l)
holder_eq (Owner p) (Owner q) = pid_eq p q
holder_eq (Receiver i) (Receiver j) = id_eq i j
holder_eq (Sender i) (Sender j) = id_eq i j
holder_eq (Enclosed i k) (Enclosed j l) = id_eq i j && (k == l)
holder_eq (Child m) (Child n) = m == n
holder_eq (Name m) (Name n) = m == n
holder_eq (Answer m) (Answer n) = m == n
holder_eq (AskedBy p) (AskedBy q) = pid_eq p q
holder_eq ToBoard ToBoard = true
holder_eq g h = false

-- a holder gets an address
pub record Gets : Type 0 where
  pub holder : Holder
  pub place : Place

-- this holder gets this address
abbrev pub gets : Holder → Place → Gets
gets h p = record { holder = h; place = p }

-- the addresses once some holders got theirs; of two for one holder the first counts
abbrev pub given : Addresses → List Gets → Addresses
given a [] h = a h
given a (g ∷ gs) h = if holder_eq g.holder h then g.place else given a gs h

-- the acting machine, as far as a process has moved
abbrev pub acting_place : View → Pid → Place
acting_place v p = record { at = v.acting; moves = v.moves p }

-- a place at home, where nothing has moved yet
abbrev pub unmoved : ℕ → Place
unmoved m = record { at = m; moves = 0 }
