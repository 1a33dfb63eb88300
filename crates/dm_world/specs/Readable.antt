-- What machines put on wires is read again as it was put.
use Rattle.std.specs.Prelude.{◌≡◌, ℕ, ◌≤◌, List, [], length}
use Rattle.std.specs.declared.option.Option.{Option}
use Rattle.std.specs.declared.option.Option.TheVariants.{None, Some}
use Rattle.std.specs.declared.result.Result.{Result}
use Rattle.std.specs.declared.result.Result.TheVariants.{Ok, Err}
use Rattle.dm_link.specs.declared.Pid.{Pid}
use Rattle.dm_message.specs.declared.Message.{Message}
use Rattle.dm_stream.specs.Packets.{Data, Ack}
use Rattle.dm_stream.specs.Sending.{Sending, given_count, outstanding}
use Rattle.dm_packet.specs.declared.Packet.{Packet}
use Rattle.dm_packet.specs.declared.Packet.TheVariants as packet
use Rattle.dm_packet.specs.declared.PacketError.{PacketError}
use Rattle.dm_packet.specs.Packets.{packet_of, spelling}
use Rattle.dm_wire.specs.Sent.{Sent, bytes_at}
use Rattle.dm_onekernel.specs.declared.boot.Boot.{Boot}
use Rattle.dm_schedule.specs.declared.Step.{Step}
use Rattle.dm_schedule.specs.declared.Step.TheVariants as step
use Rattle.dm_node.specs.State.{NodeState, here}
use Rattle.dm_node.specs.declared.out.Out.{Out}
use Rattle.dm_node.specs.Out.{Acts, Goes, Worn}
use Rattle.dm_node.specs.Acts as node
pub use Rattle.dm_node.specs.Wired.{AreReadBack}
use Rattle.dm_world.specs.World.{WorldState, seat_of}

-- what is out on a stream from machine a to machine c, and not acknowledged, is read as it was put
pub record SenderReads (a c : ℕ) (s : Sending Message) : Type 0 where
  pub acked : s.acked ≤ s.gone
  pub gone : s.gone ≤ given_count s
  pub out : (j n : ℕ) (m : Message) → outstanding s j ≡ Some (n, m) → packet_of (spelling (packet.Data a c n m)) ≡ Ok (packet.Data a c n m)

abbrev pub NodeReads : NodeState → Type 0
NodeReads n = (y : ℕ) → SenderReads (here n) y (n.senders y)

-- each packet that was put on a wire is some packet
abbrev pub WiresRead : (ℕ → ℕ → List Sent) → Type 0
WiresRead wires = (a c k : ℕ) (bytes : List ℕ) → bytes_at (wires a c) k ≡ Some bytes → (p : Packet) × (packet_of bytes ≡ Ok p)

pub record IsReadable (w : WorldState) : Type 0 where
  pub reads : WiresRead w.wires
  pub out : (m : ℕ) → NodeReads (w.nodes m)

-- what the machine that acts gives
abbrev pub gave_some : Option Acts → List Out
gave_some None = []
gave_some (Some (Goes d)) = d.outs
gave_some (Some (Worn from to)) = []

abbrev pub gave_read : WorldState → ℕ → ℕ → Result Packet PacketError → List Out
gave_read w a c (Ok (packet.Data from to k m)) = (node.arrives (w.nodes c) a (Data k m)).outs
gave_read w a c (Ok (packet.Ack from to k)) = (node.arrives (w.nodes c) a (Ack k)).outs
gave_read w a c (Err bad) = []

abbrev pub gave_bytes : WorldState → ℕ → ℕ → Option (List ℕ) → List Out
gave_bytes w a c None = []
gave_bytes w a c (Some bytes) = gave_read w a c (packet_of bytes)

abbrev pub gave_at : WorldState → Pid → ℕ → Option ℕ → List Out
gave_at w p machine None = []
gave_at w p machine (Some seat) = gave_some (node.asks_move (w.nodes seat) p machine)

abbrev pub gave : Boot → WorldState → Step → List Out
gave b w (step.Turn m) = gave_some (node.turn b (w.nodes m))
gave b w (step.Tick m) = (node.tick (w.nodes m)).outs
gave b w (step.Deliver a c k) = gave_bytes w a c (bytes_at (w.wires a c) k)
gave b w (step.Migrate p m) = gave_at w p m (seat_of (length b.machines) w.nodes)
gave b w (step.CallOff p m) = gave_some (node.calls_off (w.nodes m) p)
