-- The kernel of one machine over plain functions and lists, and what an event gives.
use Rattle.std.specs.Prelude.{ℕ, ◌+◌, ◌/◌, Bool, false, List, [], ◌∷◌, ◌++◌, length, map}
use Rattle.std.specs.declared.option.Option.{Option}
use Rattle.std.specs.declared.option.Option.TheVariants.{None, Some}
use Rattle.dm_link.specs.declared.Addr.{Addr}
use Rattle.dm_link.specs.declared.Pid.{Pid}
use Rattle.dm_link.specs.Names.{pid_of}
use Rattle.dm_linkupdate.specs.Notice.{kernel_at}
use Rattle.dm_message.specs.declared.Message.{Message}
use Rattle.dm_message.specs.declared.MsgId.{MsgId}
use Rattle.dm_message.specs.declared.What.{What}
use Rattle.dm_process.specs.declared.process.Process.{Process}
use Rattle.dm_room.specs.Room.{Taken, with_released}
use Rattle.dm_records.specs.declared.record.Record as record_
use Rattle.dm_records.specs.declared.record.Record.TheVariants.{Here, Frozen, Incoming, Forward}
use Rattle.dm_records.specs.Records.{with_pred, with_record, without_preds, without_record}
use Rattle.dm_migrate.specs.Departure.{Departure}
use Rattle.dm_procman.specs.Managing.{Managing}
use Rattle.dm_switchboard.specs.Board.{Board}
use Rattle.dm_resident.specs.declared.Resident.{Resident}
use Rattle.dm_resident.specs.Residents.{board_of, manager_of, process_of}
use Rattle.dm_resident.specs.declared.Resident.TheVariants as resident
use Rattle.dm_migrate.specs.Arrival.{Arrival}
use Rattle.dm_onekernel.specs.declared.label.Label.{Label}
use Rattle.dm_onekernel.specs.declared.label.Label.TheVariants as label
use Rattle.dm_onekernel.specs.declared.label.Why.{Why}
use Rattle.dm_line.specs.declared.line.Line.TheVariants as line
use Rattle.dm_line.specs.Sets.{without}
use Rattle.dm_kernel.specs.declared.part.Part.{Part}
use Rattle.dm_kernel.specs.declared.part.Part.TheVariants.{Says}

-- what a machine knows of a process or a server
abbrev pub KernelKnown : Type 0
KernelKnown = record_.Record Resident Departure Arrival

pub record KernelState : Type 0 where
  pub here : ℕ
  pub records : Pid → Option KernelKnown
  -- the predecessors of each process: the machines that may send on to this one what comes for it
  pub preds : Pid → ℕ → Bool
  -- the processes that are served, in order
  pub ring : List Pid
  -- the messages that have come and wait to be handled
  pub inbox : List Message
  -- how many processes were made here
  pub made : ℕ
  -- how many messages of its own the kernel has sent
  pub sent : ℕ
  pub room : Taken
  -- the process that ended in the last turn, if one did, and why
  pub over : Option (Pid × Why)

-- a kernel after an event, and what it says and routes, in order
pub record Turned : Type 0 where
  pub state : KernelState
  pub parts : List Part

abbrev pub turned : KernelState → List Part → Option Turned
turned s parts = Some (record { state = s; parts = parts })

abbrev pub says : Label → Part
says l = Says (line.Label l)

abbrev pub with_here : KernelState → Pid → Process → KernelState
with_here s p x = record s { records = with_record s.records p (Here (resident.Process x)) }

-- a process, where it is here
abbrev pub process_in : Option KernelKnown → Option Process
process_in None = None
process_in (Some (Here r)) = process_of r
process_in (Some (Frozen leaving)) = None
process_in (Some (Incoming arriving)) = None
process_in (Some (Forward machine moves)) = None

-- the manager, where it is here
abbrev pub manager_in : Option KernelKnown → Option Managing
manager_in None = None
manager_in (Some (Here r)) = manager_of r
manager_in (Some (Frozen leaving)) = None
manager_in (Some (Incoming arriving)) = None
manager_in (Some (Forward machine moves)) = None

-- the switchboard, where it is here
abbrev pub board_in : Option KernelKnown → Option Board
board_in None = None
board_in (Some (Here r)) = board_of r
board_in (Some (Frozen leaving)) = None
board_in (Some (Incoming arriving)) = None
board_in (Some (Forward machine moves)) = None

-- the place in the ring of what goes on here: only processes are served
abbrev pub ring_with : List Pid → Pid → Resident → List Pid
ring_with ring p (resident.Process x) = ring ++ p ∷ []
ring_with ring p (resident.Board b) = ring
ring_with ring p (resident.Manager g) = ring

-- the blocks of a process's memory
abbrev pub blocks_of : Process → ℕ
blocks_of x = length x.memory / 256

-- the queue of a process that ends goes message by message
abbrev pub dropped : Message → Part
dropped m = says (label.Dropped m.id)

abbrev pub drops : List Message → List Part
drops ms = map dropped ms

-- nothing is known of a process any more
abbrev pub forgets : KernelState → Pid → KernelState
forgets s p = record s { records = without_record s.records p; preds = without_preds s.preds p }

-- a process that ends leaves the ring, its slot and its blocks, and is forgotten; the kernel says why it ended
abbrev pub without_process : KernelState → Pid → Process → Why → KernelState
without_process s p x y =
    record (forgets s p) {
      ring = without p s.ring;
      room = with_released s.room (blocks_of x);
      over = Some (p, y);
    }

-- nobody has ended yet, as it is before a turn
abbrev pub before_turn : KernelState → KernelState
before_turn s = record s { over = None }

-- one machine more may send on to this one what comes for a process
abbrev pub preceded : KernelState → Pid → ℕ → KernelState
preceded s p machine = record s { preds = with_pred s.preds p machine }

-- what is known of a process is set
abbrev pub with_known : KernelState → Pid → KernelKnown → KernelState
with_known s p k = record s { records = with_record s.records p k }

-- a message of the kernel's own bears its name and the count of those before it
abbrev pub own_id : KernelState → MsgId
own_id s = record { from = pid_of s.here 0; n = s.sent; answer = false }

abbrev pub own : KernelState → Addr → What → Message
own s to w = record { id = own_id s; to = to; sender = kernel_at s.here; what = w }

-- one message more is sent
abbrev pub with_sent : KernelState → KernelState
with_sent s = record s { sent = s.sent + 1 }
