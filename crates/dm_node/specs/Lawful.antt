-- What an event sends can be put on the machine's own wires: each packet is lawful, and goes from this machine to another.
use Rattle.std.specs.Prelude.{◌≡◌, ⊤, ℕ}
use Rattle.std.specs.List.{All}
use Rattle.dm_packet.specs.declared.Packet.{Packet}
use Rattle.dm_packet.specs.declared.Packet.TheVariants as packet
use Rattle.dm_packet.specs.Lawful.{IsLawfulPacket}
use Rattle.dm_node.specs.declared.out.Out.{Out}
use Rattle.dm_node.specs.declared.out.Out.TheVariants.{Says, Sends}
use Rattle.dm_node.specs.State.{here}
use Rattle.dm_node.specs.Out.{Acted}

abbrev pub IsFrom : ℕ → Packet → Type 0
IsFrom m (packet.Data from to k w) = from ≡ m
IsFrom m (packet.Ack from to k) = from ≡ m

abbrev pub IsLawfulOut : ℕ → Out → Type 0
IsLawfulOut m (Says l) = ⊤
IsLawfulOut m (Sends p) = IsLawfulPacket p × IsFrom m p

-- machine m stays machine m, and what it sends is lawful
pub record ActsLawfully (m : ℕ) (a : Acted) : Type 0 where
  pub here : here a.state ≡ m
  pub outs : All (IsLawfulOut m) a.outs
