-- Worked cases, computed: what the kernels of two machines say where a process moves from the one to the other.
use Rattle.dm_kernel.proofs.Names.{◌≡◌, ℕ, ◌==◌, List, [], ◌∷◌, ◌++◌, map, refl, if◌then◌else◌, Option, pid_of, Message, id_of, kind_of, registers, shell_of_bytes, shell_spelling, Boot, One, bind, Line, Part, Says, Routes, asks_move}
use Rattle.dm_kernel.proofs.Names.{opened, KernelState, Turned, turn, true, MsgId, calls_off}
use Rattle.std.specs.declared.option.Option.TheVariants.{Some}
use Rattle.dm_message.specs.declared.Outcome.TheVariants as ends
use Rattle.dm_message.specs.declared.What.TheVariants as what
use Rattle.dm_message.specs.declared.kind.MessageKind.TheVariants as kind
use Rattle.dm_onekernel.specs.declared.label.Label.TheVariants as label
use Rattle.dm_line.specs.declared.line.Line.TheVariants as line
use Rattle.dm_line.specs.declared.line.Stage.TheVariants as stage

-- the two machines
record Pair : Type 0 where
  zero : KernelState
  one : KernelState

-- the process on machine 0 is told to move, its move to a machine is called off, or a machine takes a turn
data Event : Type 0 where
  Asks : (machine : ℕ) → Event
  Calls : (machine : ℕ) → Event
  Turns : (machine : ℕ) → Event

abbrev line_of : ℕ → Part → Line
line_of from (Says l) = l
line_of from (Routes m) = line.Put from m.to.at m.id (kind_of m.what) m.to.pid

-- what is routed comes at once
abbrev comes_to : Pair → Message → Pair
comes_to p m =
    if m.to.at == 0 then record p { zero = record p.zero { inbox = p.zero.inbox ++ m ∷ [] } }
    else record p { one = record p.one { inbox = p.one.inbox ++ m ∷ [] } }

abbrev come : Pair → List Part → Pair
come p [] = p
come p (Says l ∷ parts) = come p parts
come p (Routes m ∷ parts) = come (comes_to p m) parts

-- machine 0 or machine 1
abbrev acts : Boot → Pair → Event → Option Turned
acts b p (Asks machine) = asks_move p.zero (pid_of 0 3) machine
acts b p (Calls machine) = calls_off (if machine == 0 then p.zero else p.one) (pid_of 0 3)
acts b p (Turns machine) = turn b (if machine == 0 then p.zero else p.one)

abbrev machine_of : Event → ℕ
machine_of (Asks machine) = 0
machine_of (Calls machine) = machine
machine_of (Turns machine) = machine

abbrev set : Pair → ℕ → KernelState → Pair
set p machine s = if machine == 0 then record p { zero = s } else record p { one = s }

abbrev groups : Boot → Pair → List Event → Option (List (List Line))
groups b p [] = Some []
groups b p (e ∷ es) =
    bind (acts b p e) (λ t. bind (groups b (come (set p (machine_of e) t.state) t.parts) es) (λ gs. Some (map (line_of (machine_of e)) t.parts ∷ gs)))

-- one process of one block on machine 0
abbrev places : ℕ → Boot
places slots = record {
  numbers = 1048576;
  quantum = 16;
  format = One;
  machines = record { slots = 2; blocks = 2 } ∷ record { slots = slots; blocks = 2 } ∷ [];
  images = record { bytes = 20 ∷ 0 ∷ 0 ∷ 7 ∷ []; blocks = 1 } ∷ [];
  processes = record { pid = pid_of 0 3; name = []; image = 0; links = [] } ∷ [];
}

abbrev at_first : ℕ → Pair
at_first slots = record { zero = opened (places slots) 0; one = opened (places slots) 1 }

-- there is no slot: the process stays, and is served again
refused : groups (places 0) (at_first 0) (Asks 1 ∷ Turns 0 ∷ Turns 1 ∷ Turns 0 ∷ [])
    ≡ Some (
    (line.Put 0 0 (id_of (pid_of 0 0) 0) kind.Migrate (pid_of 0 3) ∷ [])
    ∷ (line.Migration stage.Frozen (pid_of 0 3) ∷ line.Migration stage.Asked (pid_of 0 3) ∷ line.Put 0 1 (id_of (pid_of 0 0) 1) kind.Ask (pid_of 1 0) ∷ [])
    ∷ (line.Lacks (pid_of 0 3) 0 2 ∷ line.Put 1 0 (id_of (pid_of 1 0) 0) kind.Refuse (pid_of 0 0) ∷ [])
    ∷ (line.Stays (pid_of 0 3) ∷ [])
    ∷ [])
unfolding shell_spelling registers
refused = refl

-- it moves, is told to move back while it is on its way, and that message follows it
moves : groups (places 2) (at_first 2) (Asks 1 ∷ Turns 0 ∷ Asks 0 ∷ Turns 0 ∷ Turns 1 ∷ Turns 0 ∷ Turns 1 ∷ Turns 0 ∷ Turns 1 ∷ Turns 0 ∷ Turns 1 ∷ Turns 1 ∷ Turns 1 ∷ Turns 0 ∷ Asks 1 ∷ Turns 0 ∷ [])
    ≡ Some (
    (line.Put 0 0 (id_of (pid_of 0 0) 0) kind.Migrate (pid_of 0 3) ∷ [])
    ∷ (line.Migration stage.Frozen (pid_of 0 3) ∷ line.Migration stage.Asked (pid_of 0 3) ∷ line.Put 0 1 (id_of (pid_of 0 0) 1) kind.Ask (pid_of 1 0) ∷ [])
    ∷ (line.Put 0 0 (id_of (pid_of 0 0) 2) kind.Migrate (pid_of 0 3) ∷ [])
    ∷ (line.Held (id_of (pid_of 0 0) 2) ∷ [])
    ∷ (line.Migration stage.Accepted (pid_of 0 3) ∷ line.Put 1 0 (id_of (pid_of 1 0) 0) kind.PullState (pid_of 0 0) ∷ [])
    ∷ (line.Proto (id_of (pid_of 1 0) 0) ∷ line.Put 0 1 (id_of (pid_of 0 0) 3) kind.State (pid_of 1 0) ∷ [])
    ∷ (line.Migration stage.StateTaken (pid_of 0 3) ∷ line.Put 1 0 (id_of (pid_of 1 0) 1) kind.PullBlock (pid_of 0 0) ∷ [])
    ∷ (line.Proto (id_of (pid_of 1 0) 1) ∷ line.Put 0 1 (id_of (pid_of 0 0) 4) kind.Memory (pid_of 1 0) ∷ [])
    ∷ (line.Migration stage.MemoryTaken (pid_of 0 3) ∷ line.Put 1 0 (id_of (pid_of 1 0) 2) kind.AllTaken (pid_of 0 0) ∷ [])
    ∷ (line.SentOn (pid_of 0 3) 1 ∷ line.Put 0 1 (id_of (pid_of 0 0) 2) kind.Migrate (pid_of 0 3) ∷ line.Migration stage.Left (pid_of 0 3) ∷ line.Put 0 1 (id_of (pid_of 0 0) 5) kind.Restart (pid_of 1 0) ∷ [])
    ∷ (line.Held (id_of (pid_of 0 0) 2) ∷ [])
    ∷ (line.Migration stage.Restarted (pid_of 0 3) ∷ [])
    ∷ (line.Migration stage.Frozen (pid_of 0 3) ∷ line.Migration stage.Asked (pid_of 0 3) ∷ line.Put 1 0 (id_of (pid_of 1 0) 3) kind.Ask (pid_of 0 0) ∷ [])
    ∷ (line.Migration stage.Accepted (pid_of 0 3) ∷ line.Put 0 1 (id_of (pid_of 0 0) 6) kind.PullState (pid_of 1 0) ∷ [])
    ∷ (line.Put 0 0 (id_of (pid_of 0 0) 7) kind.Migrate (pid_of 0 3) ∷ [])
    ∷ (line.Held (id_of (pid_of 0 0) 7) ∷ [])
    ∷ [])
unfolding shell_spelling registers shell_of_bytes
moves = refl

-- its move is called off: the piece that it was asked for comes nevertheless, and is stale; and it can't be called off again
called_off : groups (places 2) (at_first 2) (Asks 1 ∷ Turns 0 ∷ Turns 1 ∷ Calls 1 ∷ Turns 0 ∷ Turns 0 ∷ Turns 1 ∷ Calls 1 ∷ [])
    ≡ Some (
    (line.Put 0 0 (id_of (pid_of 0 0) 0) kind.Migrate (pid_of 0 3) ∷ [])
    ∷ (line.Migration stage.Frozen (pid_of 0 3) ∷ line.Migration stage.Asked (pid_of 0 3) ∷ line.Put 0 1 (id_of (pid_of 0 0) 1) kind.Ask (pid_of 1 0) ∷ [])
    ∷ (line.Migration stage.Accepted (pid_of 0 3) ∷ line.Put 1 0 (id_of (pid_of 1 0) 0) kind.PullState (pid_of 0 0) ∷ [])
    ∷ (line.Called (pid_of 0 3) 0 ∷ line.Put 1 0 (id_of (pid_of 1 0) 1) kind.CallOff (pid_of 0 0) ∷ [])
    ∷ (line.Proto (id_of (pid_of 1 0) 0) ∷ line.Put 0 1 (id_of (pid_of 0 0) 2) kind.State (pid_of 1 0) ∷ [])
    ∷ (line.Stays (pid_of 0 3) ∷ [])
    ∷ (line.Stale (id_of (pid_of 0 0) 2) ∷ [])
    ∷ (line.NoCall (pid_of 0 3) ∷ [])
    ∷ [])
unfolding shell_spelling registers
called_off = refl

-- it has moved, and its move back is called off: the message that was held goes to where it is
called_back : groups (places 2) (at_first 2)
    (Asks 1 ∷ Turns 0 ∷ Asks 0 ∷ Turns 0 ∷ Turns 1 ∷ Turns 0 ∷ Turns 1 ∷ Turns 0 ∷ Turns 1 ∷ Turns 0 ∷ Turns 1 ∷ Turns 1 ∷ Turns 1 ∷ Turns 0 ∷ Asks 1 ∷ Turns 0 ∷ Calls 0 ∷ Turns 1 ∷ Turns 1 ∷ Turns 1 ∷ Turns 1 ∷ Turns 0 ∷ [])
    ≡ Some (
    (line.Put 0 0 (id_of (pid_of 0 0) 0) kind.Migrate (pid_of 0 3) ∷ [])
    ∷ (line.Migration stage.Frozen (pid_of 0 3) ∷ line.Migration stage.Asked (pid_of 0 3) ∷ line.Put 0 1 (id_of (pid_of 0 0) 1) kind.Ask (pid_of 1 0) ∷ [])
    ∷ (line.Put 0 0 (id_of (pid_of 0 0) 2) kind.Migrate (pid_of 0 3) ∷ [])
    ∷ (line.Held (id_of (pid_of 0 0) 2) ∷ [])
    ∷ (line.Migration stage.Accepted (pid_of 0 3) ∷ line.Put 1 0 (id_of (pid_of 1 0) 0) kind.PullState (pid_of 0 0) ∷ [])
    ∷ (line.Proto (id_of (pid_of 1 0) 0) ∷ line.Put 0 1 (id_of (pid_of 0 0) 3) kind.State (pid_of 1 0) ∷ [])
    ∷ (line.Migration stage.StateTaken (pid_of 0 3) ∷ line.Put 1 0 (id_of (pid_of 1 0) 1) kind.PullBlock (pid_of 0 0) ∷ [])
    ∷ (line.Proto (id_of (pid_of 1 0) 1) ∷ line.Put 0 1 (id_of (pid_of 0 0) 4) kind.Memory (pid_of 1 0) ∷ [])
    ∷ (line.Migration stage.MemoryTaken (pid_of 0 3) ∷ line.Put 1 0 (id_of (pid_of 1 0) 2) kind.AllTaken (pid_of 0 0) ∷ [])
    ∷ (line.SentOn (pid_of 0 3) 1 ∷ line.Put 0 1 (id_of (pid_of 0 0) 2) kind.Migrate (pid_of 0 3) ∷ line.Migration stage.Left (pid_of 0 3) ∷ line.Put 0 1 (id_of (pid_of 0 0) 5) kind.Restart (pid_of 1 0) ∷ [])
    ∷ (line.Held (id_of (pid_of 0 0) 2) ∷ [])
    ∷ (line.Migration stage.Restarted (pid_of 0 3) ∷ [])
    ∷ (line.Migration stage.Frozen (pid_of 0 3) ∷ line.Migration stage.Asked (pid_of 0 3) ∷ line.Put 1 0 (id_of (pid_of 1 0) 3) kind.Ask (pid_of 0 0) ∷ [])
    ∷ (line.Migration stage.Accepted (pid_of 0 3) ∷ line.Put 0 1 (id_of (pid_of 0 0) 6) kind.PullState (pid_of 1 0) ∷ [])
    ∷ (line.Put 0 0 (id_of (pid_of 0 0) 7) kind.Migrate (pid_of 0 3) ∷ [])
    ∷ (line.Held (id_of (pid_of 0 0) 7) ∷ [])
    ∷ (line.Called (pid_of 0 3) 1 ∷ line.Put 0 1 (id_of (pid_of 0 0) 7) kind.Migrate (pid_of 0 3) ∷ line.Put 0 1 (id_of (pid_of 0 0) 8) kind.CallOff (pid_of 1 0) ∷ [])
    ∷ (line.Proto (id_of (pid_of 0 0) 6) ∷ line.Put 1 0 (id_of (pid_of 1 0) 4) kind.State (pid_of 0 0) ∷ [])
    ∷ (line.Held (id_of (pid_of 0 0) 7) ∷ [])
    ∷ (line.Stays (pid_of 0 3) ∷ [])
    ∷ (line.Here (id_of (pid_of 0 0) 7) ∷ [])
    ∷ (line.Stale (id_of (pid_of 1 0) 4) ∷ [])
    ∷ [])
unfolding shell_spelling registers shell_of_bytes
called_back = refl

-- a message that comes to where it was goes on, and its sender is told
follows : groups (places 2) (at_first 2) (Asks 1 ∷ Turns 0 ∷ Turns 1 ∷ Turns 0 ∷ Turns 1 ∷ Turns 0 ∷ Turns 1 ∷ Turns 0 ∷ Asks 1 ∷ Turns 0 ∷ Turns 0 ∷ Turns 1 ∷ Turns 1 ∷ [])
    ≡ Some (
    (line.Put 0 0 (id_of (pid_of 0 0) 0) kind.Migrate (pid_of 0 3) ∷ [])
    ∷ (line.Migration stage.Frozen (pid_of 0 3) ∷ line.Migration stage.Asked (pid_of 0 3) ∷ line.Put 0 1 (id_of (pid_of 0 0) 1) kind.Ask (pid_of 1 0) ∷ [])
    ∷ (line.Migration stage.Accepted (pid_of 0 3) ∷ line.Put 1 0 (id_of (pid_of 1 0) 0) kind.PullState (pid_of 0 0) ∷ [])
    ∷ (line.Proto (id_of (pid_of 1 0) 0) ∷ line.Put 0 1 (id_of (pid_of 0 0) 2) kind.State (pid_of 1 0) ∷ [])
    ∷ (line.Migration stage.StateTaken (pid_of 0 3) ∷ line.Put 1 0 (id_of (pid_of 1 0) 1) kind.PullBlock (pid_of 0 0) ∷ [])
    ∷ (line.Proto (id_of (pid_of 1 0) 1) ∷ line.Put 0 1 (id_of (pid_of 0 0) 3) kind.Memory (pid_of 1 0) ∷ [])
    ∷ (line.Migration stage.MemoryTaken (pid_of 0 3) ∷ line.Put 1 0 (id_of (pid_of 1 0) 2) kind.AllTaken (pid_of 0 0) ∷ [])
    ∷ (line.SentOn (pid_of 0 3) 0 ∷ line.Migration stage.Left (pid_of 0 3) ∷ line.Put 0 1 (id_of (pid_of 0 0) 4) kind.Restart (pid_of 1 0) ∷ [])
    ∷ (line.Put 0 0 (id_of (pid_of 0 0) 5) kind.Migrate (pid_of 0 3) ∷ [])
    ∷ (line.Forwarded (id_of (pid_of 0 0) 5) 1 ∷ line.Put 0 1 (id_of (pid_of 0 0) 5) kind.Migrate (pid_of 0 3) ∷ line.Put 0 0 (id_of (pid_of 0 0) 6) kind.Update (pid_of 0 2) ∷ [])
    ∷ (line.Updated (id_of (pid_of 0 0) 6) 1 ∷ [])
    ∷ (line.Migration stage.Restarted (pid_of 0 3) ∷ [])
    ∷ (line.Here (id_of (pid_of 0 0) 5) ∷ [])
    ∷ [])
unfolding shell_spelling registers shell_of_bytes
follows = refl

-- a process asks the manager that the process on machine 0 move
abbrev wants : ℕ → ℕ → Message
wants n machine =
    record {
      id = id_of (pid_of 0 3) n;
      to = record { pid = pid_of 0 2; at = 0; moves = 0 };
      sender = record { pid = pid_of 0 3; at = 0; moves = 0 };
      what = what.User 1 0 (record { items = 5 ∷ machine ∷ [] }) (record { items = [] });
    }

-- the manager's requests, and their answers
abbrev request : ℕ → MsgId
request n = id_of (pid_of 0 2) n

abbrev answer_to : ℕ → MsgId
answer_to n = record (request n) { answer = true }

-- it is asked to move to where it is, which is answered at once, and to where there is no slot, which is answered as it stays
asked_in_vain : groups (places 0) (comes_to (comes_to (at_first 0) (wants 0 0)) (wants 1 1)) (Turns 0 ∷ Turns 0 ∷ Turns 0 ∷ Turns 0 ∷ Turns 0 ∷ Turns 1 ∷ Turns 0 ∷ Turns 0 ∷ [])
    ≡ Some (
    (line.Label (label.Took (id_of (pid_of 0 3) 0)) ∷ line.Put 0 0 (request 0) kind.Move (pid_of 0 3) ∷ [])
    ∷ (line.Label (label.Took (id_of (pid_of 0 3) 1)) ∷ line.Put 0 0 (request 1) kind.Move (pid_of 0 3) ∷ [])
    ∷ (line.Label (label.Asked (request 0)) ∷ line.Label (label.Answered (request 0) ends.Done) ∷ line.Put 0 0 (answer_to 0) kind.Moved (pid_of 0 2) ∷ [])
    ∷ (line.Label (label.Asked (request 1)) ∷ line.Migration stage.Frozen (pid_of 0 3) ∷ line.Migration stage.Asked (pid_of 0 3) ∷ line.Put 0 1 (id_of (pid_of 0 0) 0) kind.Ask (pid_of 1 0) ∷ [])
    ∷ (line.Label (label.Took (answer_to 0)) ∷ [])
    ∷ (line.Lacks (pid_of 0 3) 0 2 ∷ line.Put 1 0 (id_of (pid_of 1 0) 0) kind.Refuse (pid_of 0 0) ∷ [])
    ∷ (line.Stays (pid_of 0 3) ∷ line.Label (label.Answered (request 1) ends.Stayed) ∷ line.Put 0 0 (answer_to 1) kind.Moved (pid_of 0 2) ∷ [])
    ∷ (line.Label (label.Took (answer_to 1)) ∷ [])
    ∷ [])
unfolding shell_spelling registers
asked_in_vain = refl

-- it is asked to move to where there is a slot: the other machine answers as it goes on there
asked_and_moves : groups (places 2) (comes_to (at_first 2) (wants 0 1)) (Turns 0 ∷ Turns 0 ∷ Turns 1 ∷ Turns 0 ∷ Turns 1 ∷ Turns 0 ∷ Turns 1 ∷ Turns 0 ∷ Turns 1 ∷ Turns 0 ∷ [])
    ≡ Some (
    (line.Label (label.Took (id_of (pid_of 0 3) 0)) ∷ line.Put 0 0 (request 0) kind.Move (pid_of 0 3) ∷ [])
    ∷ (line.Label (label.Asked (request 0)) ∷ line.Migration stage.Frozen (pid_of 0 3) ∷ line.Migration stage.Asked (pid_of 0 3) ∷ line.Put 0 1 (id_of (pid_of 0 0) 0) kind.Ask (pid_of 1 0) ∷ [])
    ∷ (line.Migration stage.Accepted (pid_of 0 3) ∷ line.Put 1 0 (id_of (pid_of 1 0) 0) kind.PullState (pid_of 0 0) ∷ [])
    ∷ (line.Proto (id_of (pid_of 1 0) 0) ∷ line.Put 0 1 (id_of (pid_of 0 0) 1) kind.State (pid_of 1 0) ∷ [])
    ∷ (line.Migration stage.StateTaken (pid_of 0 3) ∷ line.Put 1 0 (id_of (pid_of 1 0) 1) kind.PullBlock (pid_of 0 0) ∷ [])
    ∷ (line.Proto (id_of (pid_of 1 0) 1) ∷ line.Put 0 1 (id_of (pid_of 0 0) 2) kind.Memory (pid_of 1 0) ∷ [])
    ∷ (line.Migration stage.MemoryTaken (pid_of 0 3) ∷ line.Put 1 0 (id_of (pid_of 1 0) 2) kind.AllTaken (pid_of 0 0) ∷ [])
    ∷ (line.SentOn (pid_of 0 3) 0 ∷ line.Migration stage.Left (pid_of 0 3) ∷ line.Put 0 1 (id_of (pid_of 0 0) 3) kind.Restart (pid_of 1 0) ∷ [])
    ∷ (line.Migration stage.Restarted (pid_of 0 3) ∷ line.Label (label.Answered (request 0) ends.Done) ∷ line.Put 1 0 (answer_to 0) kind.Moved (pid_of 0 2) ∷ [])
    ∷ (line.Label (label.Took (answer_to 0)) ∷ [])
    ∷ [])
unfolding shell_spelling registers shell_of_bytes
asked_and_moves = refl
