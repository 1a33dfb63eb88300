-- What a machine gave is read again as it was put.
use Rattle.dm_world.proofs.Names.{◌≡◌, ℕ, List, sym, ap, subst, ◌∙◌, option_map, Option, None, Some, Ok, Packet, packet_of, Data, Ack, bytes_at, Boot, Node, Spoken, Acts, Goes, Worn, MayDeliver, MayRead, sent_by}
use Rattle.dm_world.proofs.Names.{ActedSome, AreReadBack, gave_bytes, gave_read, gave_some, WorldState}
use Rattle.dm_packet.specs.declared.Packet.TheVariants as packet
use Rattle.dm_node.specs.Acts as node
use Rattle.dm_world.proofs.Delivering.{may_read, read_bytes}

-- a turn, which may not have taken place
pub turn_back : (b : Boot) (xs ys : List Node) (m : ℕ) (before after : Spoken) (o : Option Acts) → ActedSome b xs ys m before after o → AreReadBack (gave_some o)
turn_back b xs ys m before after None h = absurd h
turn_back b xs ys m before after (Some (Goes a)) h = h.outs.again
turn_back b xs ys m before after (Some (Worn from to)) h = absurd h

-- a packet that came
gave_packet : (w : WorldState) (a c : ℕ) (p : Packet) → sent_by p ≡ a → gave_read w a c (Ok p) ≡ (node.arrives_packet (w.nodes c) p).outs
gave_packet w a c (packet.Data from to k m) h = ap (λ x. (node.arrives (w.nodes c) x (Data k m)).outs) (sym h)
gave_packet w a c (packet.Ack from to k) h = ap (λ x. (node.arrives (w.nodes c) x (Ack k)).outs) (sym h)

gave_at : (w : WorldState) (a c : ℕ) (p : Packet) (o : Option (List ℕ)) → option_map packet_of o ≡ Some (Ok p) → MayDeliver w a c o → gave_bytes w a c o ≡ (node.arrives_packet (w.nodes c) p).outs
gave_at w a c p None read may = absurd (cc)
gave_at w a c p (Some bytes) read may =
    let is : packet_of bytes ≡ Ok p = read_bytes bytes p read in
    let h : MayRead w a c (Ok p) = may_read w a c (packet_of bytes) p is may in
    ap (gave_read w a c) is ∙ gave_packet w a c p h.0

pub packet_back : (w : WorldState) (a c k : ℕ) (p : Packet) → option_map packet_of (bytes_at (w.wires a c) k) ≡ Some (Ok p) → MayDeliver w a c (bytes_at (w.wires a c) k)
    → AreReadBack (node.arrives_packet (w.nodes c) p).outs → AreReadBack (gave_bytes w a c (bytes_at (w.wires a c) k))
packet_back w a c k p read may back = subst AreReadBack (sym (gave_at w a c p (bytes_at (w.wires a c) k) read may)) back
