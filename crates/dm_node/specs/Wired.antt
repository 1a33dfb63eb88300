-- What is printed of an event's packets, and what stands on the wires then.
use Rattle.std.specs.Prelude.{◌≡◌, ⊤, ℕ, List, [], ◌∷◌, ◌++◌, length, Ok}
use Rattle.dm_packet.specs.declared.Packet.{Packet}
use Rattle.dm_packet.specs.declared.Packet.TheVariants as packet
use Rattle.dm_packet.specs.Packets.{packet_of, spelling}
use Rattle.dm_wire.specs.Sent.{Sent}
use Rattle.dm_wire.specs.Wire.{after_put, packets_on}
use Rattle.dm_line.specs.declared.line.Line.{Line}
use Rattle.dm_line.specs.declared.line.Line.TheVariants as line
use Rattle.dm_line.specs.declared.line.Load.TheVariants as load
use Rattle.dm_node.specs.declared.out.Out.{Out}
use Rattle.dm_node.specs.declared.out.Out.TheVariants.{Says, Sends}

-- the lines, and the wires, after what a machine gives, in order
pub record Spoken : Type 0 where
  pub lines : List Line
  pub wires : ℕ → ℕ → List Sent

abbrev pub says : Line → Spoken → Spoken
says l w = record { lines = l ∷ w.lines; wires = w.wires }

-- the line of a packet that goes on the wires, as the next of its pair
abbrev pub packet_line : (ℕ → ℕ → List Sent) → Packet → Line
packet_line wires (packet.Data a b k m) = line.Packet a b (length (wires a b)) (load.Data k)
packet_line wires (packet.Ack a b k) = line.Packet a b (length (wires a b)) (load.Ack k)

abbrev pub with_packet : (ℕ → ℕ → List Sent) → Packet → ℕ → ℕ → List Sent
with_packet wires (packet.Data a b k m) = after_put wires a b (spelling (packet.Data a b k m))
with_packet wires (packet.Ack a b k) = after_put wires a b (spelling (packet.Ack a b k))

abbrev pub spoken : (ℕ → ℕ → List Sent) → List Out → Spoken
spoken wires [] = record { lines = []; wires = wires }
spoken wires (Says l ∷ outs) = says l (spoken wires outs)
spoken wires (Sends p ∷ outs) = says (packet_line wires p) (spoken (with_packet wires p) outs)

-- the lines and the wires so far
abbrev pub so_far : List (List Sent) → List Line → Spoken
so_far wires lines = record { lines = lines; wires = packets_on wires }

-- and after what a machine gives behind them
abbrev pub spoken_then : Spoken → List Out → Spoken
spoken_then s outs = record { lines = s.lines ++ (spoken s.wires outs).lines; wires = (spoken s.wires outs).wires }

-- the bytes of each packet that a machine gives are read as that packet
abbrev pub AreReadBack : List Out → Type 0
AreReadBack [] = ⊤
AreReadBack (Says l ∷ outs) = AreReadBack outs
AreReadBack (Sends p ∷ outs) = (packet_of (spelling p) ≡ Ok p) × AreReadBack outs

-- a machine has said this behind what was said before, its packets stand on the wires, and are read again as what they were
pub record Spoke (old new : Spoken) (outs : List Out) : Type 0 where
  pub lines : new.lines ≡ (spoken_then old outs).lines
  pub wires : (a c : ℕ) → new.wires a c ≡ (spoken_then old outs).wires a c
  pub again : AreReadBack outs
