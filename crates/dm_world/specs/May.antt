-- What a directive counts on, as the world of every good run has it.
use Rattle.std.specs.Prelude.{◌≡◌, ◌≢◌, ⊤, ℕ, ◌<◌, List, length}
use Rattle.std.specs.declared.option.Option.{Option}
use Rattle.std.specs.declared.option.Option.TheVariants.{None, Some}
use Rattle.std.specs.declared.result.Result.{Result}
use Rattle.std.specs.declared.result.Result.TheVariants.{Ok, Err}
use Rattle.dm_packet.specs.declared.Packet.{Packet}
use Rattle.dm_packet.specs.declared.Packet.TheVariants as packet
use Rattle.dm_packet.specs.declared.PacketError.{PacketError}
use Rattle.dm_packet.specs.Packets.{packet_of}
use Rattle.dm_wire.specs.Sent.{bytes_at}
use Rattle.dm_onekernel.specs.declared.boot.Boot.{Boot}
use Rattle.dm_schedule.specs.declared.Step.{Step}
use Rattle.dm_schedule.specs.declared.Step.TheVariants as step
use Rattle.dm_kernel.specs.Lawful.{IsLawfulState}
use Rattle.dm_node.specs.May as node
use Rattle.dm_world.specs.World.{WorldState, seat_of}

-- the machine that a packet comes from
abbrev pub sent_by : Packet → ℕ
sent_by (packet.Data from to k m) = from
sent_by (packet.Ack from to k) = from

-- bytes that machine a put on the wire to machine c are a packet of a's that c can take
abbrev pub MayRead : WorldState → ℕ → ℕ → Result Packet PacketError → Type 0
MayRead w a c (Ok p) = (sent_by p ≡ a) × node.MayArrivePacket (w.nodes c) p
MayRead w a c (Err bad) = ⊥

abbrev pub MayDeliver : WorldState → ℕ → ℕ → Option (List ℕ) → Type 0
MayDeliver w a c None = ⊤
MayDeliver w a c (Some bytes) = MayRead w a c (packet_of bytes)

-- the machine where the manager is may be asked; where it is on its way, none is
abbrev pub MayAskAt : WorldState → Option ℕ → Type 0
MayAskAt w None = ⊤
MayAskAt w (Some seat) = node.MayAskMove (w.nodes seat) × IsLawfulState (w.nodes seat).kernel

-- the machines of the directive are machines of the boot file, and the machine that acts may do so
abbrev pub MayStep : Boot → WorldState → Step → Type 0
MayStep b w (step.Turn m) = (m < length b.machines) × node.MayTurn b (w.nodes m) × IsLawfulState (w.nodes m).kernel
MayStep b w (step.Tick m) = (m < length b.machines) × node.MayAct (w.nodes m)
MayStep b w (step.Deliver a c k) = (a < length b.machines) × (c < length b.machines) × (a ≢ c) × MayDeliver w a c (bytes_at (w.wires a c) k)
MayStep b w (step.Migrate p m) = (m < length b.machines) × MayAskAt w (seat_of (length b.machines) w.nodes)
MayStep b w (step.CallOff p m) = (m < length b.machines) × node.MayCallOff (w.nodes m) p × IsLawfulState (w.nodes m).kernel
