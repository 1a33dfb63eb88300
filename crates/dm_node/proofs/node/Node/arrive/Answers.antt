-- What is in the envelope is the packet.
use Rattle.dm_node.proofs.Names.{OnOk, ◌≡◌, ◌∙◌, ap, sym, subst, Packet, MayArrivePacket, Gave, arrives_packet, node_state, packet_in, so_far}
use Rattle.dm_packet.specs.declared.Packet.TheVariants as packet
use Rattle.dm_node.proofs.node.Node.arrive.Goals as goal

pub take-requires-clause-may : goal.take-requires-clause-may
take-requires-clause-may c =
    let is : packet.Data c.in-Data.from c.in-Data.to c.in-Data.seq c.in-Data.message ≡ c.args.packet = sym (ap packet_in c.in-Data.is) ∙ c.open.ensures in
    (subst (MayArrivePacket (node_state c.args.self.now)) (sym is) c.requires.may).0

pub hear-requires-clause-may : goal.hear-requires-clause-may
hear-requires-clause-may c =
    let is : packet.Ack c.in-Ack.from c.in-Ack.to c.in-Ack.count ≡ c.args.packet = sym (ap packet_in c.in-Ack.is) ∙ c.open.ensures in
    (subst (MayArrivePacket (node_state c.args.self.now)) (sym is) c.requires.may).0

pub returns-in-Data : goal.returns-in-Data
returns-in-Data c =
    let is : packet.Data c.in-Data.from c.in-Data.to c.in-Data.seq c.in-Data.message ≡ c.args.packet = sym (ap packet_in c.in-Data.is) ∙ c.open.ensures in
    subst (λ (p : Packet). OnOk c.take.result (Gave c.take.new.self (so_far c.args.wires.now c.args.lines.now.items) (so_far c.take.new.wires c.take.new.lines.items) (arrives_packet (node_state c.args.self.now) p))) is c.take.ensures

pub returns-in-Ack : goal.returns-in-Ack
returns-in-Ack c =
    let is : packet.Ack c.in-Ack.from c.in-Ack.to c.in-Ack.count ≡ c.args.packet = sym (ap packet_in c.in-Ack.is) ∙ c.open.ensures in
    subst (λ (p : Packet). OnOk c.hear.result (Gave c.hear.new.self (so_far c.args.wires.now c.args.lines.now.items) (so_far c.hear.new.wires c.hear.new.lines.items) (arrives_packet (node_state c.args.self.now) p))) is c.hear.ensures
