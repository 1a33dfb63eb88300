-- A turn of the machine: the message at the inbox's front is handled, or the first process of the ring that can be served
-- is.
use Rattle.std.specs.Prelude.{Bool, false, if◌then◌else◌, List, [], ◌∷◌}
use Rattle.std.specs.declared.option.Option.{Option}
use Rattle.std.specs.declared.option.Option.TheVariants.{None, Some}
use Rattle.dm_link.specs.declared.Pid.{Pid}
use Rattle.dm_message.specs.declared.Message.{Message}
use Rattle.dm_process.specs.Process.{is_runnable}
use Rattle.dm_records.specs.declared.record.Record.TheVariants.{Here, Frozen, Incoming, Forward}
use Rattle.dm_onekernel.specs.declared.boot.Boot.{Boot}
use Rattle.dm_line.specs.declared.line.Line.TheVariants as line
use Rattle.dm_line.specs.Sets.{moved_back}
use Rattle.dm_kernel.specs.declared.part.Part.TheVariants.{Says}
use Rattle.dm_resident.specs.declared.Resident.TheVariants as resident
use Rattle.dm_kernel.specs.State.{KernelKnown, KernelState, Turned, before_turn, turned}
use Rattle.dm_kernel.specs.Serve.{serves}
use Rattle.dm_kernel.specs.Handle.{handles}

-- a process that leaves, comes or has gone isn't served
abbrev pub known_is_runnable : Option KernelKnown → Bool
known_is_runnable None = false
known_is_runnable (Some (Here (resident.Process x))) = is_runnable x
known_is_runnable (Some (Here (resident.Board v))) = false
known_is_runnable (Some (Here (resident.Manager v))) = false
known_is_runnable (Some (Frozen leaving)) = false
known_is_runnable (Some (Incoming arriving)) = false
known_is_runnable (Some (Forward machine moves)) = false

abbrev pub first_runnable : (Pid → Option KernelKnown) → List Pid → Option Pid
first_runnable records [] = None
first_runnable records (p ∷ ps) = if known_is_runnable (records p) then Some p else first_runnable records ps

-- it is served, and goes to the ring's back
abbrev pub goes_round : Boot → KernelState → Option Pid → Option Turned
goes_round b s None = turned s (Says (line.Idle s.here) ∷ [])
goes_round b s (Some p) = serves b.quantum (record s { ring = moved_back p s.ring }) p (s.records p)

abbrev pub turns : Boot → KernelState → List Message → Option Turned
turns b s [] = goes_round b s (first_runnable s.records s.ring)
turns b s (m ∷ rest) = handles b (record s { inbox = rest }) m

abbrev pub turn : Boot → KernelState → Option Turned
turn b s = turns b (before_turn s) s.inbox
