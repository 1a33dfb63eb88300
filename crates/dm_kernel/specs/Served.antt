-- What is known of the process that an event is about.
use Rattle.std.specs.Prelude.{◌≡◌, ℕ, ◌+◌, ◌<◌, length}
use Rattle.std.specs.declared.option.Option.{Option}
use Rattle.std.specs.declared.option.Option.TheVariants.{None, Some}
use Rattle.dm_link.specs.declared.Pid.{Pid}
use Rattle.dm_message.specs.declared.Message.{Message}
use Rattle.dm_process.specs.declared.process.Process.{Process}
use Rattle.dm_process.specs.Service.{IsServiceOf, Takes}
use Rattle.dm_process.specs.declared.process.Service.{Service}
use Rattle.dm_process.specs.declared.process.Status.TheVariants.{Ready}
use Rattle.dm_records.specs.declared.record.Record.TheVariants.{Here, Frozen, Incoming, Forward}
use Rattle.dm_room.specs.Room.{HasTaken, Taken}
use Rattle.dm_migrate.specs.Departure.{Departure}
use Rattle.dm_migrate.specs.Departure.{Departure}
use Rattle.dm_resident.specs.Residents.{moves_of}
use Rattle.dm_resident.specs.declared.Resident.TheVariants as resident
use Rattle.dm_kernel.specs.State.{KernelKnown, KernelState, blocks_of}
use Rattle.dm_process.specs.Lawful.{IsLawfulProcess}
use Rattle.dm_datamove.specs.Serving.{IsWithin}
use Rattle.dm_datamove.specs.Landing.{IsAwaited}
use Rattle.dm_kernel.specs.May.{CanTellAll, MayAct, MayLeave, FitsHere, most}

-- it is here, and this holds of it
abbrev pub IsHere : (Process → Type 0) → Option KernelKnown → Type 0
IsHere P None = ⊥
IsHere P (Some (Here (resident.Process x))) = P x
IsHere P (Some (Here (resident.Board v))) = ⊥
IsHere P (Some (Here (resident.Manager v))) = ⊥
IsHere P (Some (Frozen leaving)) = ⊥
IsHere P (Some (Incoming arriving)) = ⊥
IsHere P (Some (Forward machine moves)) = ⊥

-- it is here, and has its slot and its blocks; where it ends others can be told
pub record HasPlace (s : KernelState) (x : Process) : Type 0 where
  pub sent : CanTellAll s
  pub room : HasTaken s.room (blocks_of x)

-- it is here, and can be served so
pub record Serves (s : KernelState) (p : Pid) (service : Service) (x : Process) : Type 0 where
  pub acts : MayAct s p x
  pub sent : CanTellAll s
  pub does : IsServiceOf x service

-- it is here, and ready
pub record Executes (s : KernelState) (p : Pid) (x : Process) : Type 0 where
  pub acts : MayAct s p x
  pub sent : CanTellAll s
  pub ready : x.status ≡ Ready

-- it is here, and waits for the message at this place of its queue
pub record Receives (s : KernelState) (p : Pid) (mask place : ℕ) (x : Process) : Type 0 where
  pub acts : MayAct s p x
  pub takes : Takes x mask place

-- it is here, and the message is one for it
pub record Handles (s : KernelState) (m : Message) (x : Process) : Type 0 where
  pub acts : MayAct s m.to.pid x
  pub fits : FitsHere s m x m.what

-- it is here, and the piece that is asked for lies in its memory
pub record OwnsPiece (m : Message) (x : Process) : Type 0 where
  pub lawful : IsLawfulProcess x
  pub within : IsWithin (length x.memory) m.what

-- it is here, and waits for this answer
pub record AwaitsPiece (m : Message) (x : Process) : Type 0 where
  pub lawful : IsLawfulProcess x
  pub sent : x.sent < most
  pub awaited : IsAwaited x.status m

-- it leaves for this machine, where it is after so many moves; it has its slot and its blocks, and what goes on can be counted
pub record LeavesFor (r : Taken) (machine moves : ℕ) (d : Departure) : Type 0 where
  pub machine_is : d.to ≡ machine
  pub moves_are : moves_of d.resident + 1 ≡ moves
  pub may : MayLeave r d
