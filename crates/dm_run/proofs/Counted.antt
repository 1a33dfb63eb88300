-- Each elementary directive counts as one.
use Rattle.dm_run.proofs.Names.{◌≡◌, ℕ, ◌+◌, List, [], ◌∷◌, ap, length, sym, Option, None, Some, Result, Ok, Err, Packet, PacketError, packet_of, bytes_at, after_mark, Boot, Step, Line, Data, Ack, Acts, Goes}
use Rattle.dm_run.proofs.Names.{MeetsSome, IsWornOut, WorldState, Said, Happened, Says, WornOut, acted, turned, delivers, reads, world_step}
use Rattle.dm_packet.specs.declared.Packet.TheVariants as packet
use Rattle.dm_schedule.specs.declared.Step.TheVariants as step
use Rattle.dm_line.specs.declared.line.Line.TheVariants as line
use Rattle.dm_node.specs.Out.{Worn}
use Rattle.dm_node.specs.Acts as node
use Rattle.dm_link.specs.declared.Pid.{Pid}
use Rattle.dm_world.specs.World.{asks_at, keeps_over, seat_of}

abbrev nothing : WorldState → Step → Said
nothing w e = record { state = record w { groups = w.groups + 1 }; lines = line.Head e ∷ line.Nothing ∷ [] }

turned_counts : (w : WorldState) (e : Step) (m : ℕ) (o : Option Acts) (s : Said) → turned w e m o ≡ Some (Says s) → s.state.groups ≡ w.groups + 1
turned_counts w e m None s is = cc
turned_counts w e m (Some (Goes d)) s is = let f : acted w e m d ≡ s = cc in sym (ap (λ (x : Said). x.state.groups) f)
turned_counts w e m (Some (Worn from to)) s is = let bad : WornOut from to ≡ Says s = cc in cc

reads_counts : (w : WorldState) (e : Step) (a c : ℕ) (r : Result Packet PacketError) (s : Said) → reads w e a c r ≡ Some (Says s) → s.state.groups ≡ w.groups + 1
reads_counts w e a c (Ok (packet.Data from to k m)) s is = let f : acted w e c (node.arrives (w.nodes c) a (Data k m)) ≡ s = cc in sym (ap (λ (x : Said). x.state.groups) f)
reads_counts w e a c (Ok (packet.Ack from to k)) s is = let f : acted w e c (node.arrives (w.nodes c) a (Ack k)) ≡ s = cc in sym (ap (λ (x : Said). x.state.groups) f)
reads_counts w e a c (Err bad) s is = cc

delivers_counts : (w : WorldState) (e : Step) (a c k : ℕ) (o : Option (List ℕ)) (s : Said) → delivers w e a c k o ≡ Some (Says s) → s.state.groups ≡ w.groups + 1
delivers_counts w e a c k None s is = let f : nothing w e ≡ s = cc in sym (ap (λ (x : Said). x.state.groups) f)
delivers_counts w e a c k (Some bytes) s is = reads_counts (record w { wires = after_mark w.wires a c k }) e a c (packet_of bytes) s is

abbrev away : WorldState → Step → Said
away w e = record { state = record w { groups = w.groups + 1 }; lines = line.Head e ∷ line.Away ∷ [] }

asks_counts : (w : WorldState) (e : Step) (p : Pid) (m : ℕ) (o : Option ℕ) (s : Said) → asks_at w e p m o ≡ Some (Says s) → s.state.groups ≡ w.groups + 1
asks_counts w e p m None s is = let f : away w e ≡ s = cc in sym (ap (λ (x : Said). x.state.groups) f)
asks_counts w e p m (Some seat) s is = turned_counts w e seat (node.asks_move (w.nodes seat) p m) s is

pub counts : (b : Boot) (w : WorldState) (e : Step) (s : Said) → world_step b w e ≡ Some (Says s) → s.state.groups ≡ w.groups + 1
counts b w (step.Turn m) s is = turned_counts (keeps_over w (node.turn b (w.nodes m))) (step.Turn m) m (node.turn b (w.nodes m)) s is
counts b w (step.Tick m) s is = let f : acted w (step.Tick m) m (node.tick (w.nodes m)) ≡ s = cc in sym (ap (λ (x : Said). x.state.groups) f)
counts b w (step.Deliver a c k) s is = delivers_counts w (step.Deliver a c k) a c k (bytes_at (w.wires a c) k) s is
counts b w (step.Migrate p m) s is = asks_counts w (step.Migrate p m) p m (seat_of (length b.machines) w.nodes) s is
counts b w (step.CallOff p m) s is = turned_counts w (step.CallOff p m) m (node.calls_off (w.nodes m) p) s is

-- what the world did
pub happens : (w : WorldState) (lines : List Line) (o : Option Happened) → MeetsSome w lines o → o ≡ Some (Says (record { state = w; lines = lines }))
happens w lines None h = absurd h
happens w lines (Some x) h = ap Some (sym h.happened)

pub worn_out : (from to : ℕ) (o : Option Happened) → IsWornOut from to o → o ≡ Some (WornOut from to)
worn_out from to None h = absurd h
worn_out from to (Some x) h = ap Some (sym h)
