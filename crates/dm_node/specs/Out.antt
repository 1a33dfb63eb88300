-- What an event of a machine gives to the outside: printed lines, and packets for other machines.
use Rattle.std.specs.Prelude.{ℕ, List, ◌++◌}
use Rattle.std.specs.declared.option.Option.{Option}
use Rattle.std.specs.declared.option.Option.TheVariants.{None, Some}
use Rattle.dm_message.specs.declared.Message.{Message}
use Rattle.dm_stream.specs.Packets.{Load, Data, Ack}
use Rattle.dm_packet.specs.declared.Packet.{Packet}
use Rattle.dm_packet.specs.declared.Packet.TheVariants as packet
use Rattle.dm_node.specs.declared.out.Out.{Out}
use Rattle.dm_node.specs.State.{NodeState}

-- the packet of a load from machine a to machine b
abbrev pub packet_of_load : ℕ → ℕ → Load Message → Packet
packet_of_load a b (Data k m) = packet.Data a b k m
packet_of_load a b (Ack k) = packet.Ack a b k

-- the packet of a message with its number
abbrev pub numbered : ℕ → ℕ → Option (ℕ × Message) → Option Packet
numbered a b None = None
numbered a b (Some p) = Some (packet.Data a b p.0 p.1)

-- a machine after an event, and what it gave, in order
pub record Acted : Type 0 where
  pub state : NodeState
  pub outs : List Out

-- an event takes place, or it would route a message between two machines that count as many as they may
pub data Acts : Type 0 where
  Goes : (acted : Acted) → Acts
  Worn : (from : ℕ) → (to : ℕ) → Acts

abbrev pub goes : NodeState → List Out → Acts
goes n outs = Goes (record { state = n; outs = outs })

-- with these before the rest
abbrev pub behind : List Out → Acts → Acts
behind outs (Goes a) = Goes (record { state = a.state; outs = outs ++ a.outs })
behind outs (Worn from to) = Worn from to

-- one after the other
abbrev pub then_ : Acts → (NodeState → Acts) → Acts
then_ (Goes a) go = behind a.outs (go a.state)
then_ (Worn from to) go = Worn from to
