-- The kernels whose processes and servers state bytes can carry, and whose messages packets can carry.
use Rattle.std.specs.Prelude.{List, ◌≤◌}
use Rattle.std.specs.List.{All}
use Rattle.std.specs.declared.option.Option.{Option}
use Rattle.std.specs.Option.{IfSome}
use Rattle.dm_link.specs.declared.Pid.{Pid}
use Rattle.dm_link.specs.Lawful.{IsLawfulAddr, IsMachine}
use Rattle.dm_message.specs.declared.Asker.{Asker}
use Rattle.dm_message.specs.Lawful.{IsLawfulMessage}
use Rattle.dm_room.specs.Room.{Taken}
use Rattle.dm_records.specs.declared.record.Record.TheVariants.{Here, Frozen, Incoming, Forward}
use Rattle.dm_migrate.specs.Arrival.{Arrival}
use Rattle.dm_migrate.specs.Departure.{Departure}
use Rattle.dm_resident.specs.Lawful.{IsLawfulResident}
use Rattle.dm_migrate.specs.Departure.{Departure}
use Rattle.dm_kernel.specs.declared.part.Part.{Part}
use Rattle.dm_kernel.specs.declared.part.Part.TheVariants.{Says, Routes}
use Rattle.dm_kernel.specs.State.{KernelKnown, KernelState, Turned}

-- whoever waits to hear how a move ends is where packets can go
abbrev pub IsLawfulAsker : Option Asker → Type 0
IsLawfulAsker asker = IfSome asker (λ (k : Asker). IsLawfulAddr k.addr)

-- a process that leaves goes to a machine
pub record IsLawfulDeparture (d : Departure) : Type 0 where
  pub resident : IsLawfulResident d.resident
  pub to : IsMachine d.to
  pub asker : IsLawfulAsker d.asker
  pub held : All IsLawfulMessage d.held

-- one that comes, comes from a machine
pub record IsLawfulArrival (a : Arrival) : Type 0 where
  pub home : IsMachine a.pid.home
  pub source : IsMachine a.source
  pub asker : IsLawfulAsker a.asker
  pub held : All IsLawfulMessage a.held

-- what is known of a process
abbrev pub IsLawfulKnown : KernelKnown → Type 0
IsLawfulKnown (Here r) = IsLawfulResident r
IsLawfulKnown (Frozen d) = IsLawfulDeparture d
IsLawfulKnown (Incoming a) = IsLawfulArrival a
IsLawfulKnown (Forward machine moves) = IsMachine machine

-- no machine has more than packets can tell of
pub record IsLawfulRoom (r : Taken) : Type 0 where
  pub slots : r.slots ≤ 64
  pub blocks : r.blocks ≤ 4096

pub record IsLawfulState (s : KernelState) : Type 0 where
  pub records : (p : Pid) → IfSome (s.records p) IsLawfulKnown
  pub room : IsLawfulRoom s.room
  pub inbox : All IsLawfulMessage s.inbox

-- a message that goes out is lawful
abbrev pub IsLawfulPart : Part → Type 0
IsLawfulPart (Says l) = Unit {0}
IsLawfulPart (Routes m) = IsLawfulMessage m

pub record AreLawful (parts : List Part) : Type 0 where
  pub each : All IsLawfulPart parts

pub record IsLawfulTurned (t : Turned) : Type 0 where
  pub state : IsLawfulState t.state
  pub parts : AreLawful t.parts
