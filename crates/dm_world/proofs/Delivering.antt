-- A packet is delivered.
use Rattle.dm_world.proofs.Names.{◌≡◌, ℕ, ◌<◌, List, length, refl, sym, ap, subst, ◌∙◌, Result, option_map, slice_get, Option, None, Some, Ok, slice_get_within, Packet, PacketError, packet_of, Data, Ack, Sent, bytes_at, after_mark, Step}
use Rattle.dm_world.proofs.Names.{MayArrivePacket, MayDeliver, MayRead, sent_by, Says, WorldState, acted, delivers, reads}
use Rattle.dm_packet.specs.declared.Packet.TheVariants as packet
use Rattle.dm_node.specs.Acts as node

-- the packet that may arrive comes from the pair's sender, and what it carries comes to its receiver
pub record Arriving (w : WorldState) (e : Step) (a c k : ℕ) (p : Packet) : Type 0 where
  pub may : MayArrivePacket (w.nodes c) p
  pub step : delivers w e a c k (bytes_at (w.wires a c) k) ≡ Some (Says (acted (record w { wires = after_mark w.wires a c k }) e c (node.arrives_packet (w.nodes c) p)))
  pub there : k < length (w.wires a c)

came : (w : WorldState) (e : Step) (a c : ℕ) (p : Packet) → sent_by p ≡ a → reads w e a c (Ok p) ≡ Some (Says (acted w e c (node.arrives_packet (w.nodes c) p)))
came w e a c (packet.Data from to k m) h = ap (λ x. Some (Says (acted w e c (node.arrives (w.nodes c) x (Data k m))))) (sym h)
came w e a c (packet.Ack from to k) h = ap (λ x. Some (Says (acted w e c (node.arrives (w.nodes c) x (Ack k))))) (sym h)

pub may_read : (w : WorldState) (a c : ℕ) (r : Result Packet PacketError) (p : Packet) → r ≡ Ok p → MayRead w a c r → MayRead w a c (Ok p)
may_read w a c r p e h = subst (MayRead w a c) e h

pub read_bytes : (bytes : List ℕ) (p : Packet) → Some (packet_of bytes) ≡ Some (Ok p) → packet_of bytes ≡ Ok p
read_bytes bytes p e = cc

record_at : (ps : List Sent) (k : ℕ) (bytes : List ℕ) (o : Option Sent) → slice_get ps k ≡ o → option_map (λ (x : Sent). x.bytes) o ≡ Some bytes → k < length ps
record_at ps k bytes None e h = absurd (cc)
record_at ps k bytes (Some x) e h = slice_get_within ps k x e

arriving_at : (w : WorldState) (e : Step) (a c k : ℕ) (p : Packet) (o : Option (List ℕ)) → bytes_at (w.wires a c) k ≡ o → option_map packet_of o ≡ Some (Ok p) → MayDeliver w a c o
    → Arriving w e a c k p
arriving_at w e a c k p None at read may = absurd (cc)
arriving_at w e a c k p (Some bytes) at read may =
    let marked = record w { wires = after_mark w.wires a c k } in
    let is : packet_of bytes ≡ Ok p = read_bytes bytes p read in
    let h : MayRead w a c (Ok p) = may_read w a c (packet_of bytes) p is may in
    record {
      may = h.1;
      step = ap (delivers w e a c k) at ∙ ap (reads marked e a c) is ∙ came marked e a c p h.0;
      there = record_at (w.wires a c) k bytes (slice_get (w.wires a c) k) refl at;
    }

pub arriving : (w : WorldState) (e : Step) (a c k : ℕ) (p : Packet) → option_map packet_of (bytes_at (w.wires a c) k) ≡ Some (Ok p) → MayDeliver w a c (bytes_at (w.wires a c) k)
    → Arriving w e a c k p
arriving w e a c k p read may = arriving_at w e a c k p (bytes_at (w.wires a c) k) refl read may
