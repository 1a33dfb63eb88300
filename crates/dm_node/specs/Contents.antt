-- The packet that an envelope holds.
use Rattle.dm_packet.specs.declared.Packet.{Packet}
use Rattle.dm_packet.specs.declared.Packet.TheVariants as packet
use Rattle.dm_node.specs.declared.envelope.Contents.{Contents}
use Rattle.dm_node.specs.declared.envelope.Contents.TheVariants.{Data, Ack}

abbrev pub packet_in : Contents → Packet
packet_in (Data from to seq m) = packet.Data from to seq m
packet_in (Ack from to count) = packet.Ack from to count
