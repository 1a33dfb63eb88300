use Rattle.dm_packet.proofs.Names.{Data}
use Rattle.dm_packet.proofs.Packets.{packet_again}
use Rattle.dm_packet.proofs.Sizes.{packet_size}
use Rattle.dm_packet.proofs.encode_data.Goals as goal

pub returns-clause-size : goal.returns-clause-size
returns-clause-size c = packet_size (Data c.args.from c.args.to c.args.seq c.args.message.now) (c.requires.route, c.requires.lawful) c.put_data.ensures.fits

pub returns-clause-again : goal.returns-clause-again
returns-clause-again c = packet_again (Data c.args.from c.args.to c.args.seq c.args.message.now) (c.requires.route, c.requires.lawful) c.put_data.ensures.fits
