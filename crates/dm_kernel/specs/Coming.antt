-- What a machine does where a process or a server comes to it.
use Rattle.std.specs.Prelude.{ℕ, ◌==◌, Bool, true, false, if◌then◌else◌, List, [], ◌∷◌, ◌++◌, length, map}
use Rattle.std.specs.declared.option.Option.{Option}
use Rattle.std.specs.declared.option.Option.TheVariants.{None, Some}
use Rattle.dm_link.specs.declared.Pid.{Pid}
use Rattle.dm_linkupdate.specs.Notice.{kernel_at}
use Rattle.dm_message.specs.declared.Asker.{Asker}
use Rattle.dm_message.specs.declared.Message.{Message}
use Rattle.dm_message.specs.declared.MsgId.{MsgId}
use Rattle.dm_message.specs.declared.Outcome.TheVariants as ends
use Rattle.dm_message.specs.declared.What.TheVariants as what
use Rattle.dm_room.specs.Room.{free_blocks, free_slots}
use Rattle.dm_migrate.specs.Rooms.{has_room_for, room_with, room_without}
use Rattle.dm_records.specs.declared.record.Record.TheVariants.{Here, Incoming, Forward}
use Rattle.dm_records.specs.Records.{incoming_of, with_record}
use Rattle.dm_migrate.specs.declared.arriving.Wanted.{Wanted}
use Rattle.dm_migrate.specs.declared.arriving.Wanted.TheVariants.{Chunk, Block, Nothing}
use Rattle.dm_migrate.specs.Arrival.{Arrival, all_sent_back, comes_from, expected, is_whole, pull, restarted, with_held, with_piece}
use Rattle.dm_onekernel.specs.declared.boot.Boot.{Boot}
use Rattle.dm_onekernel.specs.Boot.{slots_of}
use Rattle.dm_onekernel.specs.Options.{bind}
use Rattle.dm_line.specs.declared.line.Line.{Line}
use Rattle.dm_line.specs.declared.line.Line.TheVariants as line
use Rattle.dm_line.specs.declared.line.Stage.TheVariants as stage
use Rattle.dm_kernel.specs.declared.part.Part.{Part}
use Rattle.dm_kernel.specs.declared.part.Part.TheVariants.{Says, Routes}
use Rattle.dm_resident.specs.declared.Resident.{Resident}
use Rattle.dm_kernel.specs.State.{KernelState, Turned, own, preceded, ring_with, turned, with_known, with_sent}
use Rattle.dm_kernel.specs.Departing.{takes_step, tells_of}

-- a process or a server asks to come: a process's slot and its blocks are taken, the machine that it comes from is a predecessor, and its first chunk is
-- asked for; or what is free is said
abbrev pub with_expected : Boot → KernelState → Pid → ℕ → ℕ → ℕ → ℕ → Option Asker → KernelState
with_expected b s p source blocks moves size asker =
    record (preceded s p source) { records = with_record s.records p (Incoming (expected p source blocks moves size asker (slots_of b.format))); room = room_with s.room blocks }

abbrev pub accepts : Boot → KernelState → Message → Pid → ℕ → ℕ → ℕ → Option Asker → Bool → Option Turned
accepts b s m p blocks moves size asker true =
    turned (with_sent (with_expected b s p m.id.from.home blocks moves size asker)) (takes_step stage.Accepted p ∷ Routes (own s m.sender (what.PullState p 0)) ∷ [])
accepts b s m p blocks moves size asker false =
    turned (with_sent s) (Says (line.Lacks p (free_slots s.room) (free_blocks s.room)) ∷ Routes (own s m.sender (what.Refuse p (free_slots s.room) (free_blocks s.room))) ∷ [])

abbrev pub answers_ask : Boot → KernelState → Message → Pid → ℕ → ℕ → ℕ → Option Asker → Option Turned
answers_ask b s m p blocks moves size asker = accepts b s m p blocks moves size asker (has_room_for s.room blocks)

-- a message for a process that comes waits until it is here
abbrev pub holds_arriving : KernelState → Message → Arrival → Option Turned
holds_arriving s m a = turned (with_known s m.to.pid (Incoming (with_held a m))) (Says (line.Held m.id) ∷ [])

-- what is said of a piece, by what is asked for after it: the last chunk and the last block are steps; of a server, which has no blocks,
-- the last chunk is both
abbrev pub piece_lines : MsgId → Pid → ℕ → Wanted → List Line
piece_lines id p blocks (Chunk k) = line.Proto id ∷ []
piece_lines id p blocks (Block k) = (if k == 0 then line.Migration stage.StateTaken p else line.Proto id) ∷ []
piece_lines id p blocks Nothing = if blocks == 0 then line.Migration stage.StateTaken p ∷ line.Migration stage.MemoryTaken p ∷ [] else line.Migration stage.MemoryTaken p ∷ []

-- a piece has come, and the next is asked for, or all is said to have come
abbrev pub took_piece : KernelState → Message → Pid → Option Arrival → Option Turned
took_piece s m p None = None
took_piece s m p (Some a) = turned (with_sent (with_known s p (Incoming a))) (map Says (piece_lines m.id p a.blocks a.wanted) ++ Routes (own s m.sender (pull a.pid a.wanted)) ∷ [])

abbrev pub takes_piece : KernelState → Message → Pid → Arrival → Option Turned
takes_piece s m p a = took_piece s m p (with_piece a m.what)

-- a process is on its way here from this machine
abbrev pub is_expected : Option Arrival → ℕ → Bool
is_expected None machine = false
is_expected (Some a) machine = comes_from a machine

-- a piece is taken where the process is on its way here from the machine that sent it; else it is stale, whatever became of the process
abbrev pub says_stale : KernelState → Message → Option Turned
says_stale s m = turned s (Says (line.Stale m.id) ∷ [])

abbrev pub if_expected : KernelState → Message → Option Arrival → (Arrival → Option Turned) → Option Turned
if_expected s m a takes = if is_expected a m.id.from.home then bind a takes else says_stale s m

abbrev pub hears_piece : KernelState → Message → Pid → Option Arrival → Option Turned
hears_piece s m p a = if_expected s m a (takes_piece s m p)

-- it is here: it is served from now on, and what was held is handled first
abbrev pub restarts_as : KernelState → Pid → Arrival → Option Resident → Option Turned
restarts_as s p a None = None
restarts_as s p a (Some x) =
    turned (record s { records = with_record s.records p (Here x); ring = ring_with s.ring p x; inbox = a.held ++ s.inbox })
    (takes_step stage.Restarted p ∷ tells_of s.here x ends.Done a.asker)

abbrev pub restarts : Boot → KernelState → Pid → Arrival → Option Turned
restarts b s p a = restarts_as s p a (restarted (length b.machines) (length b.images) a)

-- a process that comes is called off: its slot and its blocks are free, what was held for it goes back to the machine that it was to
-- leave, and that one's kernel is told
abbrev pub without_arriving : KernelState → Pid → Arrival → KernelState
without_arriving s p a = record s { records = with_record s.records p (Forward a.source a.moves); room = room_without s.room a.blocks }

abbrev pub calling_off : KernelState → Pid → Arrival → List Part
calling_off s p a =
    Says (line.Called p (length (all_sent_back a))) ∷ map Routes (all_sent_back a) ++ Routes (own s (kernel_at a.source) (what.CallOff a.pid)) ∷ []

abbrev pub turns_back : KernelState → Pid → Arrival → Option Turned
turns_back s p a = turned (with_sent (without_arriving s p a)) (calling_off s p a)

-- a process that doesn't come, or of which all has come, isn't called off
abbrev pub is_not_called : KernelState → Pid → Option Turned
is_not_called s p = turned s (Says (line.NoCall p) ∷ [])

abbrev pub calls_arriving_off : KernelState → Pid → Option Arrival → Option Turned
calls_arriving_off s p None = is_not_called s p
calls_arriving_off s p (Some a) = if is_whole a.wanted then is_not_called s p else turns_back s p a

abbrev pub calls_off : KernelState → Pid → Option Turned
calls_off s p = calls_arriving_off s p (incoming_of (s.records p))
