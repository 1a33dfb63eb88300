-- The lines at the end of a run, by what the machines have.
use Rattle.std.specs.Prelude.{ℕ, zero, suc, ◌≡◌, ◌<◌, ◌≤◌, ◌+◌, ◌-◌, ◌/◌, ◌^◌, ◌==◌, Bool, true, false, if◌then◌else◌, drop, List, [], ◌∷◌, ◌++◌, length, map, option_map}
use Rattle.std.specs.declared.option.Option.{Option}
use Rattle.std.specs.declared.option.Option.TheVariants.{None, Some}
use Rattle.std.specs.Option.{IfSome}
use Rattle.dm_link.specs.declared.Link.{Link}
use Rattle.dm_link.specs.declared.Pid.{Pid}
use Rattle.dm_link.specs.declared.Addr.{Addr}
use Rattle.dm_message.specs.declared.Message.{Message}
use Rattle.dm_message.specs.declared.MsgId.{MsgId}
use Rattle.dm_message.specs.Ids.{id_of}
use Rattle.dm_processor.specs.declared.registers.Regs.{Regs}
use Rattle.dm_process.specs.declared.process.Process.{Process}
use Rattle.dm_process.specs.declared.process.Status.{Status}
use Rattle.dm_process.specs.declared.process.Status.TheVariants as status
use Rattle.dm_records.specs.declared.record.Record.TheVariants.{Here, Frozen, Incoming, Forward}
use Rattle.dm_migrate.specs.Arrival.{Arrival, is_process_coming, restarted}
use Rattle.dm_migrate.specs.declared.arriving.Wanted.{Wanted}
use Rattle.dm_migrate.specs.declared.arriving.Wanted.TheVariants.{Chunk, Block, Nothing}
use Rattle.dm_switchboard.specs.Board.{Named}
use Rattle.dm_switchboard.specs.Lawful.{IsLawfulBoard}
use Rattle.dm_procman.specs.declared.pending.Pending.{Pending}
use Rattle.dm_onekernel.specs.declared.label.Why.{Why}
use Rattle.dm_onekernel.specs.Boot.{first_number, switchboard, manager}
use Rattle.dm_line.specs.declared.end_line.EndLine.{EndLine}
use Rattle.dm_line.specs.declared.end_line.EndLine.TheVariants as end
use Rattle.dm_line.specs.declared.end_line.Standing.{Standing}
use Rattle.dm_line.specs.declared.end_line.Standing.TheVariants as standing
use Rattle.dm_line.specs.declared.end_line.Doing.{Doing}
use Rattle.dm_line.specs.declared.end_line.Doing.TheVariants as doing
use Rattle.dm_line.specs.Todo.{or}
use Rattle.dm_line.specs.Ends.{memory_lines, joined_below, home_with, is_at_home, list_line}
pub use Rattle.dm_line.specs.Ends.{stands_here}
use Rattle.dm_kernel.specs.State.{KernelKnown}
use Rattle.dm_resident.specs.declared.Resident.{Resident}
use Rattle.dm_resident.specs.declared.Resident.TheVariants as resident
use Rattle.dm_resident.specs.Residents as residents
use Rattle.dm_onekernel.specs.declared.boot.Boot.{Boot}
use Rattle.dm_world.specs.World.{WorldState}

abbrev pub doing_of : Status → Doing
doing_of status.Ready = doing.Ready
doing_of (status.Waiting mask base size) = doing.Waiting mask base size
doing_of (status.Moving dir owner base own left pending) = doing.Moving dir owner.pid base own left

-- the links of the slots from k on
abbrev pub slot_line : Pid → ℕ → Option Link → List EndLine
slot_line p k None = []
slot_line p k (Some l) = end.Link p k l ∷ []

abbrev pub link_lines : Pid → ℕ → List (Option Link) → List EndLine
link_lines p k [] = []
link_lines p k (l ∷ ls) = slot_line p k l ++ link_lines p (k + 1) ls

abbrev pub parts_lines : Pid → Regs → List ℕ → List (Option Link) → List EndLine
parts_lines p regs memory table = end.Registers p regs.r regs.pc ∷ memory_lines p memory (length memory / 256) ++ link_lines p 0 table

abbrev pub state_lines : Pid → Process → List EndLine
state_lines p x = parts_lines p x.regs x.memory x.table

-- a process that stands so on machine m
abbrev pub alive_lines : ℕ → Pid → Standing → Process → List EndLine
alive_lines m p s x = end.Process p m s (doing_of x.status) x.stopped x.sent ∷ state_lines p x

-- how many messages a server has sent, and where it stands, unless it is here on machine 0
abbrev pub sent_lines : ℕ → Pid → Standing → ℕ → List EndLine
sent_lines m p s sent = end.Server p sent ∷ (if is_at_home m s then [] else end.Place p m s ∷ [])

-- a process or a server that stands so on machine m
abbrev pub resident_lines : ℕ → Pid → Standing → Resident → List EndLine
resident_lines m p s (resident.Process x) = alive_lines m p s x
resident_lines m p s (resident.Board b) = sent_lines m p s b.sent
resident_lines m p s (resident.Manager g) = sent_lines m p s g.sent

-- what a machine says of a process or a server that is here or leaves
abbrev pub record_lines : ℕ → Pid → Option KernelKnown → Option (List EndLine)
record_lines m p None = None
record_lines m p (Some (Here r)) = Some (resident_lines m p standing.Here r)
record_lines m p (Some (Frozen leaving)) = Some (resident_lines m p standing.Leaving leaving.resident)
record_lines m p (Some (Incoming arriving)) = None
record_lines m p (Some (Forward machine moves)) = None

-- what comes is what its pieces make, once all of them have come
abbrev pub come_whole : Boot → Arrival → Wanted → Option Resident
come_whole b a (Chunk k) = None
come_whole b a (Block k) = None
come_whole b a Nothing = restarted (length b.machines) (length b.images) a

abbrev pub come_lines : ℕ → Pid → Option Resident → Option (List EndLine)
come_lines m p None = None
come_lines m p (Some r) = Some (resident_lines m p standing.Arriving r)

-- what a machine says of a process or a server that it awaits
abbrev pub awaited_lines : Boot → ℕ → Pid → Option KernelKnown → Option (List EndLine)
awaited_lines b m p None = None
awaited_lines b m p (Some (Here r)) = None
awaited_lines b m p (Some (Frozen leaving)) = None
awaited_lines b m p (Some (Incoming arriving)) = come_lines m p (come_whole b arriving arriving.wanted)
awaited_lines b m p (Some (Forward machine moves)) = None

abbrev pub names_of : List Message → List MsgId
names_of ms = map (λ (m : Message). m.id) ms

abbrev pub record_queue : Pid → Option KernelKnown → Option (List EndLine)
record_queue p None = None
record_queue p (Some (Here r)) = Some (list_line (end.Queue p) (names_of (residents.queue_of r)))
record_queue p (Some (Frozen leaving)) = Some (list_line (end.Queue p) (names_of (residents.queue_of leaving.resident)))
record_queue p (Some (Incoming arriving)) = None
record_queue p (Some (Forward machine moves)) = None

-- the messages that a machine holds for a process or a server that leaves or comes
abbrev pub held_for : Option KernelKnown → List Message
held_for None = []
held_for (Some (Here x)) = []
held_for (Some (Frozen leaving)) = leaving.held
held_for (Some (Incoming arriving)) = arriving.held
held_for (Some (Forward machine moves)) = []

abbrev pub held_line : WorldState → ℕ → Pid → List EndLine
held_line w m p = list_line (end.Holding m p) (names_of (held_for ((w.nodes m).kernel.records p)))

-- the first of n machines that says something of it
abbrev pub first_says : (ℕ → Option (List EndLine)) → ℕ → Option (List EndLine)
first_says f zero = None
first_says f (suc n) = or (first_says f n) (f n)

abbrev pub lines_in : Option (List EndLine) → List EndLine
lines_in None = []
lines_in (Some ls) = ls

abbrev pub first_had : ℕ → WorldState → Pid → Option (List EndLine)
first_had machines w p = first_says (λ m. record_lines m p ((w.nodes m).kernel.records p)) machines

abbrev pub first_awaited : Boot → WorldState → Pid → Option (List EndLine)
first_awaited b w p = first_says (λ m. awaited_lines b m p ((w.nodes m).kernel.records p)) (length b.machines)

-- a process or a server is here or leaves, or else it arrives
abbrev pub living_lines : Boot → WorldState → Pid → List EndLine
living_lines b w p = lines_in (or (first_had (length b.machines) w p) (first_awaited b w p))

-- but one that has ended is nowhere
abbrev pub lines_by : Boot → WorldState → Pid → Option Why → List EndLine
lines_by b w p None = living_lines b w p
lines_by b w p (Some y) = end.Ended p y ∷ []

abbrev pub process_lines : Boot → WorldState → Pid → List EndLine
process_lines b w p = lines_by b w p (w.ended p)

abbrev pub queue_of : ℕ → WorldState → Pid → List EndLine
queue_of machines w p = lines_in (first_says (λ m. record_queue p ((w.nodes m).kernel.records p)) machines)

-- for each process that was ever made, by home and by number
abbrev pub homes_with : WorldState → (Pid → List EndLine) → ℕ → List EndLine
homes_with w f zero = []
homes_with w f (suc home) = homes_with w f home ++ home_with f home (w.nodes home).kernel.made

-- the servers
abbrev pub name_lines : List Named → List EndLine
name_lines [] = []
name_lines (k ∷ ks) = end.Name (record { items = k.name }) k.link ∷ name_lines ks

abbrev pub child_lines : ℕ → List Addr → List EndLine
child_lines n [] = []
child_lines n (c ∷ cs) = end.Child n c.pid c.at ∷ child_lines (n + 1) cs

abbrev pub pending_lines : List Pending → List EndLine
pending_lines [] = []
pending_lines (r ∷ rs) = end.Pending (id_of manager r.n) ∷ pending_lines rs

-- what a server keeps: the switchboard its names, the manager its children and the requests without a taken answer
abbrev pub lists_of : Resident → List EndLine
lists_of (resident.Process x) = []
lists_of (resident.Board b) = name_lines b.names
lists_of (resident.Manager g) = child_lines 1 g.children ++ pending_lines g.pending

abbrev pub record_kept : Option KernelKnown → Option (List EndLine)
record_kept None = None
record_kept (Some (Here r)) = Some (lists_of r)
record_kept (Some (Frozen leaving)) = Some (lists_of leaving.resident)
record_kept (Some (Incoming arriving)) = None
record_kept (Some (Forward machine moves)) = None

-- a server that comes, where it is one and all of it has come
abbrev pub server_come : Boot → Arrival → Wanted → Option Resident
server_come b a wanted = if is_process_coming a then None else come_whole b a wanted

abbrev pub awaited_kept : Boot → Option KernelKnown → Option (List EndLine)
awaited_kept b None = None
awaited_kept b (Some (Here r)) = None
awaited_kept b (Some (Frozen leaving)) = None
awaited_kept b (Some (Incoming arriving)) = option_map lists_of (server_come b arriving arriving.wanted)
awaited_kept b (Some (Forward machine moves)) = None

abbrev pub kept_lines : Boot → WorldState → Pid → List EndLine
kept_lines b w p =
    lines_in (or (first_says (λ m. record_kept ((w.nodes m).kernel.records p)) (length b.machines)) (first_says (λ m. awaited_kept b ((w.nodes m).kernel.records p)) (length b.machines)))

-- how many messages each has sent, and where it is; then what each keeps
abbrev pub server_lines : Boot → WorldState → List EndLine
server_lines b w = living_lines b w switchboard ++ living_lines b w manager ++ kept_lines b w switchboard ++ kept_lines b w manager

-- what machine m holds: for the servers, and for each process
abbrev pub held_lines : ℕ → WorldState → ℕ → List EndLine
held_lines machines w m = held_line w m switchboard ++ held_line w m manager ++ homes_with w (held_line w m) machines

-- what was given to the stream from a to c and not taken yet: the receiver's count says how much was taken
abbrev pub untaken : WorldState → ℕ → ℕ → List Message
untaken w a c = drop (((w.nodes c).receivers a).count - ((w.nodes a).senders c).acked) ((w.nodes a).senders c).unacked

abbrev pub stream_line : WorldState → ℕ → ℕ → List EndLine
stream_line w a c = if a == c then [] else list_line (end.Stream a c) (names_of (untaken w a c))

-- all that a run of the machines of a boot file leaves behind, in the order in which it is printed
abbrev pub end_lines : Boot → WorldState → List EndLine
end_lines b w =
    end.Final
    ∷ homes_with w (process_lines b w) (length b.machines)
    ++ server_lines b w
    ++ homes_with w (queue_of (length b.machines) w) (length b.machines)
    ++ joined_below (held_lines (length b.machines) w) (length b.machines)
    ++ joined_below (λ m. list_line (end.Inbox m) (names_of (w.nodes m).kernel.inbox)) (length b.machines)
    ++ joined_below (λ a. joined_below (λ c. stream_line w a c) (length b.machines)) (length b.machines)
    ++ end.Groups w.groups
    ∷ []

-- the lines that are said behind those that there were, if any are
abbrev pub SaysSome : Bool → List EndLine → List EndLine → Option (List EndLine) → Type 0
SaysSome said old new None = (said ≡ false) × (new ≡ old)
SaysSome said old new (Some ls) = (said ≡ true) × (new ≡ old ++ ls)

-- what the lines of a server count on: each name is one, and each child has a number
abbrev pub HasPlainEnd : Resident → Type 0
HasPlainEnd (resident.Process x) = Unit {0}
HasPlainEnd (resident.Board b) = IsLawfulBoard b
HasPlainEnd (resident.Manager g) = length g.children < 2 ^ 32

abbrev pub KnownHasPlainEnd : KernelKnown → Type 0
KnownHasPlainEnd (Here r) = HasPlainEnd r
KnownHasPlainEnd (Frozen leaving) = HasPlainEnd leaving.resident
KnownHasPlainEnd (Incoming arriving) = Unit {0}
KnownHasPlainEnd (Forward machine moves) = Unit {0}

-- what the lines at the end of so many machines count on, as the world of every good run has it: each process that was made
-- has a number
pub record MayEnd (machines : ℕ) (w : WorldState) : Type 0 where
  pub made : (m : ℕ) → m < machines → first_number + (w.nodes m).kernel.made ≤ 2 ^ 32
  pub servers : (m : ℕ) → m < machines → (p : Pid) → IfSome ((w.nodes m).kernel.records p) KnownHasPlainEnd
