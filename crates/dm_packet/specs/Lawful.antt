-- The packets that the format has.
use Rattle.std.specs.Prelude.{◌≢◌, ℕ}
use Rattle.dm_link.specs.Lawful.{IsMachine}
use Rattle.dm_message.specs.Lawful.{IsLawfulMessage}
use Rattle.dm_packet.specs.declared.Packet.{Packet}
use Rattle.dm_packet.specs.declared.Packet.TheVariants.{Data, Ack}

-- a packet goes from one machine to another
pub record IsRoute (a b : ℕ) : Type 0 where
  pub from : IsMachine a
  pub to : IsMachine b
  pub apart : b ≢ a

abbrev pub IsLawfulPacket : Packet → Type 0
IsLawfulPacket (Data from to seq message) = IsRoute from to × IsLawfulMessage message
IsLawfulPacket (Ack from to count) = IsRoute from to
