-- What a machine does where a process or a server leaves it.
use Rattle.std.specs.Prelude.{ℕ, ◌+◌, ◌==◌, if◌then◌else◌, List, [], ◌∷◌, ◌++◌, length, map}
use Rattle.std.specs.declared.option.Option.{Option}
use Rattle.std.specs.declared.option.Option.TheVariants.{None, Some}
use Rattle.dm_link.specs.declared.Pid.{Pid}
use Rattle.dm_linkupdate.specs.Notice.{kernel_at}
use Rattle.dm_message.specs.declared.Asker.{Asker}
use Rattle.dm_message.specs.declared.Message.{Message}
use Rattle.dm_message.specs.declared.Outcome.{Outcome}
use Rattle.dm_message.specs.declared.Outcome.TheVariants as ends
use Rattle.dm_message.specs.declared.What.{What}
use Rattle.dm_message.specs.declared.What.TheVariants as what
use Rattle.dm_process.specs.declared.process.Process.{Process}
use Rattle.dm_records.specs.declared.record.Record.TheVariants.{Here, Frozen, Forward}
use Rattle.dm_records.specs.Records.{with_record}
use Rattle.dm_migrate.specs.Asking.{asker_of, manager_request, moved_answer}
use Rattle.dm_migrate.specs.Departure.{Departure, all_sent_on, ask_of, frozen, with_held}
use Rattle.dm_migrate.specs.Departure.{Departure, all_sent_on, ask_of, frozen, with_held}
use Rattle.dm_migrate.specs.Rooms.{room_without}
use Rattle.dm_resident.specs.Residents.{blocks_of, moves_of}
use Rattle.dm_resident.specs.declared.Resident.{Resident}
use Rattle.dm_resident.specs.declared.Resident.TheVariants as resident
use Rattle.dm_onekernel.specs.declared.label.Label.TheVariants as label
use Rattle.dm_line.specs.declared.line.Line.TheVariants as line
use Rattle.dm_line.specs.declared.line.Stage.{Stage}
use Rattle.dm_line.specs.declared.line.Stage.TheVariants as stage
use Rattle.dm_line.specs.Sets.{without}
use Rattle.dm_kernel.specs.declared.part.Part.{Part}
use Rattle.dm_kernel.specs.declared.part.Part.TheVariants.{Says, Routes}
use Rattle.dm_kernel.specs.State.{KernelState, Turned, own, says, ring_with, turned, with_known, with_sent}

-- a step of a migration
abbrev pub takes_step : Stage → Pid → Part
takes_step step p = Says (line.Migration step p)

-- it is frozen, and whoever waits to hear how its move ends is kept with it: it leaves the ring, and the other machine is
-- asked
abbrev pub with_frozen : KernelState → Pid → Resident → ℕ → Option Asker → KernelState
with_frozen s p x machine asker = record s { records = with_record s.records p (Frozen (frozen x machine asker)); ring = without p s.ring }

abbrev pub freezing : KernelState → Pid → Resident → ℕ → Option Asker → List Part
freezing s p x machine asker =
    takes_step stage.Frozen p ∷ takes_step stage.Asked p ∷ Routes (own s (kernel_at machine) (ask_of x asker)) ∷ []

abbrev pub freezes : KernelState → Pid → Resident → ℕ → Option Turned
freezes s p x machine = turned (with_sent (with_frozen s p x machine None)) (freezing s p x machine None)

-- what is told to move to where it is stays as it is
abbrev pub migrates : KernelState → Message → Resident → ℕ → Option Turned
migrates s m x machine = if machine == s.here then turned s (Says (line.Here m.id) ∷ []) else freezes s m.to.pid x machine

-- who asked for a move hears how it ended, if somebody asked
abbrev pub tells_asker : ℕ → Process → Outcome → Option Asker → List Part
tells_asker here x outcome None = []
tells_asker here x outcome (Some k) = says (label.Answered (manager_request k) outcome) ∷ Routes (moved_answer here x outcome k) ∷ []

-- nobody asks for the move of a server
abbrev pub tells_of : ℕ → Resident → Outcome → Option Asker → List Part
tells_of here (resident.Process x) outcome asker = tells_asker here x outcome asker
tells_of here (resident.Board b) outcome asker = []
tells_of here (resident.Manager g) outcome asker = []

-- a process that is asked to move: where it is already, that is answered at once
abbrev pub asked_to_move : KernelState → Message → Process → ℕ → Option Turned
asked_to_move s m x machine =
    if machine == s.here then turned s (says (label.Asked m.id) ∷ tells_asker s.here x ends.Done (Some (asker_of m)))
    else turned (with_sent (with_frozen s m.to.pid (resident.Process x) machine (Some (asker_of m)))) (says (label.Asked m.id) ∷ freezing s m.to.pid (resident.Process x) machine (Some (asker_of m)))

-- a message for what leaves waits until it has gone, or stays
abbrev pub holds_leaving : KernelState → Message → Departure → Option Turned
holds_leaving s m d = turned (with_known s m.to.pid (Frozen (with_held d m))) (Says (line.Held m.id) ∷ [])

-- it stays: it is served again, and what was held is handled first
abbrev pub stays : KernelState → Pid → Departure → Option Turned
stays s p d =
    turned (record s { records = with_record s.records p (Here d.resident); ring = ring_with s.ring p d.resident; inbox = d.held ++ s.inbox })
    (Says (line.Stays p) ∷ tells_of s.here d.resident ends.Stayed d.asker)

-- a piece of it goes to the machine that asks for it
abbrev pub gives_piece : KernelState → Message → What → Option Turned
gives_piece s m w = turned (with_sent s) (Says (line.Proto m.id) ∷ Routes (own s m.sender w) ∷ [])

-- it has gone: its slot and its blocks are free, the messages that wait for it go on, and the other machine may let it go on
abbrev pub without_leaving : KernelState → Pid → Departure → KernelState
without_leaving s p d =
    record s { records = with_record s.records p (Forward d.to (moves_of d.resident + 1)); room = room_without s.room (blocks_of d.resident) }

abbrev pub departs : KernelState → Pid → Departure → List Part
departs s p d =
    Says (line.SentOn p (length (all_sent_on d))) ∷ map Routes (all_sent_on d) ++ takes_step stage.Left p ∷ Routes (own s (kernel_at d.to) (what.Restart p)) ∷ []

abbrev pub leaves : KernelState → Pid → Departure → Option Turned
leaves s p d = turned (with_sent (without_leaving s p d)) (departs s p d)
