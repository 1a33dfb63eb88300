-- What a machine's turn counts on, as every machine of a good run has it.
use Rattle.std.specs.Prelude.{◌≡◌, ⊤, ℕ, ◌+◌, ◌^◌, ◌<◌, ◌≤◌, ◌==◌, ◌||◌, true, false, List, [], ◌∷◌, length, IsSome}
use Rattle.std.specs.Option.{IfSome}
use Rattle.std.specs.declared.option.Option.{Option}
use Rattle.std.specs.declared.option.Option.TheVariants.{None, Some}
use Rattle.dm_link.specs.declared.Pid.{Pid}
use Rattle.dm_link.specs.Names.{pid_eq}
use Rattle.dm_message.specs.declared.Message.{Message}
use Rattle.dm_message.specs.declared.What.{What}
use Rattle.dm_message.specs.declared.What.TheVariants as what
use Rattle.dm_message.specs.Lawful.{IsLawfulMessage, IsServer}
use Rattle.dm_process.specs.declared.process.Process.{Process}
use Rattle.dm_process.specs.Lawful.{IsLawfulProcess}
use Rattle.dm_room.specs.Room.{HasTaken, Taken}
use Rattle.dm_records.specs.declared.record.Record.TheVariants.{Here, Frozen, Incoming, Forward}
use Rattle.dm_records.specs.Records.{frozen_of, incoming_of}
use Rattle.dm_migrate.specs.declared.arriving.Wanted.TheVariants.{Nothing}
use Rattle.dm_migrate.specs.Answer.{IsAskToCome}
use Rattle.dm_migrate.specs.Arrival.{Arrival, IsNextPiece, restarted}
use Rattle.dm_migrate.specs.Pieces.{HasBlock, HasChunk}
use Rattle.dm_datamove.specs.Serving.{IsWithin}
use Rattle.dm_datamove.specs.Landing.{IsAwaited}
use Rattle.dm_procman.specs.Taking.{IsForManager}
use Rattle.dm_onekernel.specs.declared.boot.Boot.{Boot}
use Rattle.dm_onekernel.specs.Boot.{first_number, switchboard, manager}
use Rattle.dm_switchboard.specs.Board.{Board}
use Rattle.dm_procman.specs.Managing.{Managing}
use Rattle.dm_migrate.specs.Departure.{Departure}
use Rattle.dm_resident.specs.Packed.{state_of}
use Rattle.dm_migrate.specs.Departure.{Departure}
use Rattle.dm_migrate.specs.Rooms.{HasTakenBy}
use Rattle.dm_onekernel.specs.Boot.{manager}
use Rattle.dm_resident.specs.Lawful.{HasFewAddresses, IsLawfulResident}
use Rattle.dm_resident.specs.Residents as residents
use Rattle.dm_resident.specs.Residents.{memory_of, moves_of, queue_of}
use Rattle.dm_resident.specs.declared.Resident.{Resident}
use Rattle.dm_resident.specs.declared.Resident.TheVariants as resident
use Rattle.dm_kernel.specs.Coming.{is_expected}
use Rattle.dm_kernel.specs.State.{KernelKnown, KernelState, blocks_of, manager_in}

-- counts and process numbers are below the greatest u32
abbrev pub most : ℕ
most = 4294967295

-- the kernel can send a message to each machine
abbrev pub CanTellAll : KernelState → Type 0
CanTellAll s = s.sent + 16 ≤ most

-- a process that is here bears its name, which is no server's, can be carried, can count one more message, and has its slot and its
-- blocks
pub record MayAct (s : KernelState) (p : Pid) (x : Process) : Type 0 where
  pub pid : x.pid ≡ p
  pub named : ¬ IsServer p
  pub lawful : IsLawfulProcess x
  pub sent : x.sent < most
  pub room : HasTaken s.room (blocks_of x)

-- a message for a process that is here, a row a kind: others can be told where it is killed, a piece lies in its memory, an answer is the
-- one that it waits for, it can move once more; a message that the kernel sends itself can be counted
abbrev pub FitsHere : KernelState → Message → Process → What → Type 0
FitsHere s m x (what.User code channel body links) = ⊤
FitsHere s m x what.Stop = ⊤
FitsHere s m x what.Resume = ⊤
FitsHere s m x what.Kill = CanTellAll s
FitsHere s m x (what.Read base len) = IsWithin (length x.memory) m.what
FitsHere s m x (what.Write base bytes) = IsWithin (length x.memory) m.what
FitsHere s m x (what.Block bytes) = IsAwaited x.status m
FitsHere s m x what.Written = IsAwaited x.status m
FitsHere s m x what.Gone = IsAwaited x.status m
FitsHere s m x (what.Migrate machine) = (x.moves < most) × (s.sent < most)
FitsHere s m x (what.Move machine) = (x.moves < most) × (s.sent < most)
FitsHere s m x (what.Update about) = ⊤
FitsHere s m x w = ⊥

abbrev pub FitsEnded : What → Type 0
FitsEnded (what.User code channel body links) = ⊤
FitsEnded what.Stop = ⊤
FitsEnded what.Resume = ⊤
FitsEnded what.Kill = ⊤
FitsEnded (what.Read base len) = ⊤
FitsEnded (what.Write base bytes) = ⊤
FitsEnded (what.Block bytes) = ⊤
FitsEnded what.Written = ⊤
FitsEnded what.Gone = ⊤
FitsEnded (what.Migrate machine) = ⊤
FitsEnded (what.Move machine) = ⊤
FitsEnded (what.Update about) = ⊤
FitsEnded w = ⊥

-- there is such a value
abbrev pub IsSuch : {X : Type 0} → (X → Type 0) → Option X → Type 0
IsSuch P None = ⊥
IsSuch P (Some x) = P x

-- a process that leaves has its slot and its blocks, and what goes on can be counted
pub record MayLeave (r : Taken) (d : Departure) : Type 0 where
  pub room : HasTakenBy r (residents.blocks_of d.resident)
  pub few : length (queue_of d.resident) + length d.held < most

-- all of what comes has come, and it can be carried; a server is read as one of this system, which is no larger than its numbers can say
pub record MayRestart (b : Boot) (a : Arrival) : Type 0 where
  pub whole : a.wanted ≡ Nothing
  pub few_machines : length b.machines < 256
  pub few_images : length b.images < 65536
  pub resident : Resident
  pub restarts : restarted (length b.machines) (length b.images) a ≡ Some resident
  pub lawful : IsLawfulResident resident

-- a piece that is waited for from the machine that sent it is the next one, and the kernel can ask for one more; of another nothing
-- is asked
abbrev pub FitsPiece : KernelState → Message → What → Option Arrival → Type 0
FitsPiece s m w a = is_expected a m.id.from.home ≡ true → IsSuch (λ x. IsNextPiece x w) a × (s.sent < most)

-- a kernel is asked for a process of an image that there is; a process that can move once more asks to come; and of a
-- migration that is under way the next message comes: to where the process leaves, an answer to the ask, or a piece is asked
-- for that there is, or the migration is called off; to where it comes, the piece that was asked for, or it may go on. Where a process
-- has ended others can be told
abbrev pub FitsKernel : Boot → KernelState → Message → What → Type 0
FitsKernel b s m (what.Create image links) = (image < length b.images) × (first_number + s.made < most)
FitsKernel b s m (what.Ask pid blocks moves size asker) = IsAskToCome (what.Ask pid blocks moves size asker) × (s.sent < most)
FitsKernel b s m (what.Refuse pid free_slots free_blocks) = IsSome (frozen_of (s.records pid))
FitsKernel b s m (what.PullState pid chunk) = IsSuch (λ d. HasChunk (state_of d.resident) chunk) (frozen_of (s.records pid)) × (s.sent < most)
FitsKernel b s m (what.State pid chunk last bytes) = FitsPiece s m (what.State pid chunk last bytes) (incoming_of (s.records pid))
FitsKernel b s m (what.PullBlock pid block) = IsSuch (λ d. HasBlock (memory_of d.resident) block) (frozen_of (s.records pid)) × (s.sent < most)
FitsKernel b s m (what.Memory pid block bytes) = FitsPiece s m (what.Memory pid block bytes) (incoming_of (s.records pid))
FitsKernel b s m (what.AllTaken pid) = IsSuch (MayLeave s.room) (frozen_of (s.records pid)) × (s.sent < most)
FitsKernel b s m (what.Restart pid) = IsSuch (MayRestart b) (incoming_of (s.records pid))
FitsKernel b s m (what.CallOff pid) = IsSome (frozen_of (s.records pid))
FitsKernel b s m (what.Bury pid) = CanTellAll s
FitsKernel b s m w = ⊥

-- what can be frozen: it can move once more, what it keeps can be counted, and its state bytes too; and the kernel can send one message
-- more
pub record MayFreeze (s : KernelState) (r : Resident) : Type 0 where
  pub lawful : IsLawfulResident r
  pub moves : moves_of r < most
  pub few : HasFewAddresses r
  pub size : length (state_of r) ≤ most
  pub sent : s.sent < most

-- a server takes a message that is one for it, and can send one more; the addresses that it keeps can be counted; or it is told to move
abbrev pub FitsBoard : KernelState → Board → What → Type 0
FitsBoard s v (what.User code channel body links) = v.sent < most
FitsBoard s v (what.Update about) = length v.names < 2 ^ 31
FitsBoard s v (what.Migrate machine) = MayFreeze s (resident.Board v)
FitsBoard s v w = ⊥

abbrev pub FitsManager : KernelState → Managing → ℕ → What → Type 0
FitsManager s v n (what.Update about) = length v.children + length v.pending < 2 ^ 31
FitsManager s v n (what.Migrate machine) = MayFreeze s (resident.Manager v)
FitsManager s v n w = IsForManager v n w × (v.sent < most) × (length v.children < most)

-- a message for what is here
abbrev pub FitsResident : KernelState → Message → Resident → Type 0
FitsResident s m (resident.Process x) = FitsHere s m x m.what
FitsResident s m (resident.Board v) = FitsBoard s v m.what
FitsResident s m (resident.Manager v) = FitsManager s v m.id.n m.what

-- what the receiver may get waits or goes on where it leaves, comes or has gone
abbrev pub FitsKnown : KernelState → Message → Option KernelKnown → Type 0
FitsKnown s m None = FitsEnded m.what
FitsKnown s m (Some (Here r)) = FitsResident s m r
FitsKnown s m (Some (Frozen leaving)) = ⊤
FitsKnown s m (Some (Incoming arriving)) = ⊤
FitsKnown s m (Some (Forward machine moves)) = s.sent < most

pub record MayHandle (b : Boot) (s : KernelState) (m : Message) : Type 0 where
  pub lawful : IsLawfulMessage m
  pub for_kernel : (m.to.pid.num == 0) ≡ true → FitsKernel b s m m.what
  pub for_process : (m.to.pid.num == 0) ≡ false → FitsKnown s m (s.records m.to.pid)

abbrev pub FrontMay : Boot → KernelState → List Message → Type 0
FrontMay b s [] = ⊤
FrontMay b s (m ∷ rest) = MayHandle b s m

pub record MayTurn (b : Boot) (s : KernelState) : Type 0 where
  pub here : s.here < 16
  pub sent : CanTellAll s
  pub processes : (p : Pid) (x : Process) → s.records p ≡ Some (Here (resident.Process x)) → MayAct s p x
  pub front : FrontMay b s s.inbox

-- what asking for a move counts on: the machine has the manager, and can send one more message
pub record MayAskMove (s : KernelState) : Type 0 where
  pub here : s.here < 16
  pub sent : s.sent < most
  pub manager : IsSome (manager_in (s.records manager))

-- what calling off counts on: the machine can send one more message; a process that comes has its slot and its blocks, and what goes
-- back can be counted
pub record MayCallOff (s : KernelState) (p : Pid) : Type 0 where
  pub here : s.here < 16
  pub sent : s.sent < most
  pub room : IfSome (incoming_of (s.records p)) (λ (a : Arrival). HasTakenBy s.room a.blocks)
  pub few : IfSome (incoming_of (s.records p)) (λ (a : Arrival). length a.held < most)
