use Rattle.dm_packet.proofs.Packets.{packet_again, packet_takes}
use Rattle.dm_packet.proofs.Sizes.{is_short}
use Rattle.dm_packet.proofs.laws.packets_have_one_spelling.Goals as goal

pub returns-clause-found : goal.returns-clause-found
returns-clause-found c = λ bytes p bytes_are e. let t = packet_takes bytes p bytes_are e in (t.1, t.2, t.0)

pub returns-clause-only : goal.returns-clause-only
returns-clause-only c = packet_again

pub returns-clause-size : goal.returns-clause-size
returns-clause-size c = is_short
