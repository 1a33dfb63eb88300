use Rattle.dm_packet.proofs.Names.{Ack}
use Rattle.dm_packet.proofs.Packets.{packet_again}
use Rattle.dm_packet.proofs.encode_ack.Goals as goal

pub returns-clause-again : goal.returns-clause-again
returns-clause-again c = packet_again (Ack c.args.from c.args.to c.args.count) c.requires.route c.ack_bytes.ensures.fits
