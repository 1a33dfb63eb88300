-- What machines print for a directive begins with its head.
use Rattle.dm_check.proofs.Names.{◌≡◌, ℕ, ◌+◌, List, [], ◌∷◌, ap, length, sym, Option, None, Some, Result, Ok, Err, Boot, Step, Line, WorldState, Said, Says, WornOut, world_step}
use Rattle.dm_packet.specs.declared.Packet.{Packet}
use Rattle.dm_packet.specs.declared.Packet.TheVariants as packet
use Rattle.dm_packet.specs.declared.PacketError.{PacketError}
use Rattle.dm_packet.specs.Packets.{packet_of}
use Rattle.dm_schedule.specs.declared.Step.TheVariants as step
use Rattle.dm_stream.specs.Packets.{Data, Ack}
use Rattle.dm_line.specs.declared.line.Line.TheVariants as line
use Rattle.dm_node.specs.Out.{Acts, Goes, Worn}
use Rattle.dm_node.specs.Acts as node
use Rattle.dm_wire.specs.Sent.{bytes_at}
use Rattle.dm_wire.specs.Wire.{after_mark}
use Rattle.dm_link.specs.declared.Pid.{Pid}
use Rattle.dm_world.specs.World.{acted, asks_at, keeps_over, seat_of, turned, delivers, reads}

-- these lines do
abbrev pub IsHeaded : Step → List Line → Type 0
IsHeaded e lines = (rest : List Line) × (lines ≡ line.Head e ∷ rest)

turned_headed : (w : WorldState) (e : Step) (m : ℕ) (o : Option Acts) (s : Said) → turned w e m o ≡ Some (Says s) → IsHeaded e s.lines
turned_headed w e m None s is = absurd (cc)
turned_headed w e m (Some (Goes d)) s is = let f : acted w e m d ≡ s = cc in (_, sym (ap (λ (x : Said). x.lines) f))
turned_headed w e m (Some (Worn from to)) s is = let bad : WornOut from to ≡ Says s = cc in absurd (cc)

reads_headed : (w : WorldState) (e : Step) (a c : ℕ) (r : Result Packet PacketError) (s : Said) → reads w e a c r ≡ Some (Says s) → IsHeaded e s.lines
reads_headed w e a c (Ok (packet.Data from to k m)) s is = let f : acted w e c (node.arrives (w.nodes c) a (Data k m)) ≡ s = cc in (_, sym (ap (λ (x : Said). x.lines) f))
reads_headed w e a c (Ok (packet.Ack from to k)) s is = let f : acted w e c (node.arrives (w.nodes c) a (Ack k)) ≡ s = cc in (_, sym (ap (λ (x : Said). x.lines) f))
reads_headed w e a c (Err bad) s is = absurd (cc)

abbrev nothing : WorldState → Step → Said
nothing w e = record { state = record w { groups = w.groups + 1 }; lines = line.Head e ∷ line.Nothing ∷ [] }

delivers_headed : (w : WorldState) (e : Step) (a c k : ℕ) (o : Option (List ℕ)) (s : Said) → delivers w e a c k o ≡ Some (Says s) → IsHeaded e s.lines
delivers_headed w e a c k None s is = let f : nothing w e ≡ s = cc in (_, sym (ap (λ (x : Said). x.lines) f))
delivers_headed w e a c k (Some bytes) s is = reads_headed (record w { wires = after_mark w.wires a c k }) e a c (packet_of bytes) s is

abbrev away : WorldState → Step → Said
away w e = record { state = record w { groups = w.groups + 1 }; lines = line.Head e ∷ line.Away ∷ [] }

asks_headed : (w : WorldState) (e : Step) (p : Pid) (m : ℕ) (o : Option ℕ) (s : Said) → asks_at w e p m o ≡ Some (Says s) → IsHeaded e s.lines
asks_headed w e p m None s is = let f : away w e ≡ s = cc in (_, sym (ap (λ (x : Said). x.lines) f))
asks_headed w e p m (Some seat) s is = turned_headed w e seat (node.asks_move (w.nodes seat) p m) s is

pub headed : (b : Boot) (w : WorldState) (e : Step) (s : Said) → world_step b w e ≡ Some (Says s) → IsHeaded e s.lines
headed b w (step.Turn m) s is = turned_headed (keeps_over w (node.turn b (w.nodes m))) (step.Turn m) m (node.turn b (w.nodes m)) s is
headed b w (step.Tick m) s is = let f : acted w (step.Tick m) m (node.tick (w.nodes m)) ≡ s = cc in (_, sym (ap (λ (x : Said). x.lines) f))
headed b w (step.Deliver a c k) s is = delivers_headed w (step.Deliver a c k) a c k (bytes_at (w.wires a c) k) s is
headed b w (step.Migrate p m) s is = asks_headed w (step.Migrate p m) p m (seat_of (length b.machines) w.nodes) s is
headed b w (step.CallOff p m) s is = turned_headed w (step.CallOff p m) m (node.calls_off (w.nodes m) p) s is
