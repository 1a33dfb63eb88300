-- What a directive does by the machine that acts alone: who ends, what is read back, what is carried whole.
use Rattle.dm_law_mirror.proofs.Names.{◌≡◌, ◌<◌, ℕ, ◌+◌, List, [], ◌∷◌, length, refl, ap, ◌∙◌, sym, subst, arith, ⊤, Option, None, Some, Result, Err, Pid, Why, Packet, PacketError, packet_of, bytes_at, Boot, Step, Line, FreezesWhole}
use Rattle.dm_law_mirror.proofs.Names.{NodeState, Acts, Goes, Worn, WorldState, Said, world_step, keeps_over, over_in, with_over, delivers, reads, gave, gave_some, gave_bytes, gave_read, AreReadBack, AreWhole, SamePacket, DoesSame, marked_by}
use Rattle.dm_world.proofs.Names.{Ok}
use Rattle.dm_world.proofs.Seats.{seat_within}
use Rattle.dm_world.specs.Local.{acts_on}
use Rattle.dm_world.specs.Readable.{gave_at}
use Rattle.dm_world.specs.World.{Says, acted, asks_at, seat_of, turned}
use Rattle.dm_node.specs.Acts as node
use Rattle.dm_stream.specs.Packets.{Ack, Data}
use Rattle.dm_run.specs.Runs.{IsStep}
use Rattle.dm_run.specs.Went.{Does}
use Rattle.std.specs.Option.{unwrap_or}
use Rattle.dm_explore.specs.Order.{is_away, machine_of}
use Rattle.dm_explore.specs.Sights.{world_sight}

-- a request to move finds the manager on the same machine
abbrev pub SameSeat : Boot → Step → WorldState → WorldState → Type 0
SameSeat b (Step.Turn m) w u = ⊤
SameSeat b (Step.Tick m) w u = ⊤
SameSeat b (Step.Deliver a c k) w u = ⊤
SameSeat b (Step.Migrate p m) w u = seat_of (length b.machines) u.nodes ≡ seat_of (length b.machines) w.nodes
SameSeat b (Step.CallOff p m) w u = ⊤

pub acts_same : (b : Boot) (e : Step) (w u : WorldState) → SameSeat b e w u → acts_on b u e ≡ acts_on b w e
acts_same b (Step.Turn m) w u h = refl
acts_same b (Step.Tick m) w u h = refl
acts_same b (Step.Deliver a c k) w u h = refl
acts_same b (Step.Migrate p m) w u h = ap (λ (o : Option ℕ). unwrap_or o 0) h
acts_same b (Step.CallOff p m) w u h = refl

pub machine_acts : (b : Boot) (e : Step) (w : WorldState) → machine_of (world_sight (length b.machines) w) e ≡ acts_on b w e
machine_acts b (Step.Turn m) w = refl
machine_acts b (Step.Tick m) w = refl
machine_acts b (Step.Deliver a c k) w = refl
machine_acts b (Step.Migrate p m) w = refl
machine_acts b (Step.CallOff p m) w = refl

pub away_same : (b : Boot) (e : Step) (w u : WorldState) → SameSeat b e w u → is_away (world_sight (length b.machines) u) e ≡ is_away (world_sight (length b.machines) w) e
away_same b (Step.Turn m) w u h = refl
away_same b (Step.Tick m) w u h = refl
away_same b (Step.Deliver a c k) w u h = refl
away_same b (Step.Migrate p m) w u h = ap (λ (o : Option ℕ). is_away (record (world_sight (length b.machines) w) { seat = o }) (Step.Migrate p m)) h
away_same b (Step.CallOff p m) w u h = refl

pub machine_same : (b : Boot) (e : Step) (w u : WorldState) → SameSeat b e w u → machine_of (world_sight (length b.machines) u) e ≡ machine_of (world_sight (length b.machines) w) e
machine_same b e w u h = machine_acts b e u ∙ acts_same b e w u h ∙ sym (machine_acts b e w)

seat_less : (n : ℕ) (w : WorldState) (o : Option ℕ) → seat_of n w.nodes ≡ o → 0 < n → unwrap_or o 0 < n
seat_less n w None is least = least
seat_less n w (Some s) is least = seat_within n w.nodes s is

-- the machine that acts is one of those that there are
pub acts_less : (b : Boot) (w : WorldState) (e : Step) → IsStep (length b.machines) e → acts_on b w e < length b.machines
acts_less b w (Step.Turn m) fits = fits
acts_less b w (Step.Tick m) fits = fits
acts_less b w (Step.Deliver a c k) fits = fits.1
acts_less b w (Step.Migrate p m) fits = seat_less (length b.machines) w (seat_of (length b.machines) w.nodes) refl (omega (arith, fits))
acts_less b w (Step.CallOff p m) fits = fits

-- who ends, and why: only a turn ends somebody
abbrev pub ends_in : Boot → NodeState → Step → Option (Pid × Why)
ends_in b n (Step.Turn m) = over_in (node.turn b n)
ends_in b n (Step.Tick m) = None
ends_in b n (Step.Deliver a c k) = None
ends_in b n (Step.Migrate p m) = None
ends_in b n (Step.CallOff p m) = None

said_ends : (x s : Said) (p : Pid) → Some (Says x) ≡ Some (Says s) → s.state.ended p ≡ x.state.ended p
said_ends x s p is = let f : x ≡ s = cc in ap (λ (z : Said). z.state.ended p) (sym f)

turned_ends : (w : WorldState) (e : Step) (m : ℕ) (o : Option Acts) (s : Said) (p : Pid) → turned w e m o ≡ Some (Says s) → s.state.ended p ≡ w.ended p
turned_ends w e m None s p is = cc
turned_ends w e m (Some (Goes d)) s p is = said_ends (acted w e m d) s p is
turned_ends w e m (Some (Worn from to)) s p is = cc

reads_ends : (w : WorldState) (e : Step) (a c : ℕ) (r : Result Packet PacketError) (s : Said) (p : Pid) → reads w e a c r ≡ Some (Says s) → s.state.ended p ≡ w.ended p
reads_ends w e a c (Ok (Packet.Data from to k m)) s p is = said_ends (acted w e c (node.arrives (w.nodes c) a (Data k m))) s p is
reads_ends w e a c (Ok (Packet.Ack from to k)) s p is = said_ends (acted w e c (node.arrives (w.nodes c) a (Ack k))) s p is
reads_ends w e a c (Err bad) s p is = cc

delivers_ends : (w : WorldState) (e : Step) (a c k : ℕ) (o : Option (List ℕ)) (s : Said) (p : Pid) → delivers w e a c k o ≡ Some (Says s) → s.state.ended p ≡ w.ended p
delivers_ends w e a c k None s p is = said_ends (record { state = record w { groups = w.groups + 1 }; lines = Line.Head e ∷ Line.Nothing ∷ [] }) s p is
delivers_ends w e a c k (Some bytes) s p is = reads_ends (marked_by (Step.Deliver a c k) w) e a c (packet_of bytes) s p is

asks_ends : (w : WorldState) (e : Step) (q : Pid) (m : ℕ) (o : Option ℕ) (s : Said) (p : Pid) → asks_at w e q m o ≡ Some (Says s) → s.state.ended p ≡ w.ended p
asks_ends w e q m None s p is = said_ends (record { state = record w { groups = w.groups + 1 }; lines = Line.Head e ∷ Line.Away ∷ [] }) s p is
asks_ends w e q m (Some seat) s p is = turned_ends w e seat (node.asks_move (w.nodes seat) q m) s p is

pub ends_by : (b : Boot) (w : WorldState) (e : Step) (s : Said) (p : Pid) → world_step b w e ≡ Some (Says s) → s.state.ended p ≡ with_over w.ended (ends_in b (w.nodes (acts_on b w e)) e) p
ends_by b w (Step.Turn m) s p is = turned_ends (keeps_over w (node.turn b (w.nodes m))) (Step.Turn m) m (node.turn b (w.nodes m)) s p is
ends_by b w (Step.Tick m) s p is = said_ends (acted w (Step.Tick m) m (node.tick (w.nodes m))) s p is
ends_by b w (Step.Deliver a c k) s p is = delivers_ends w (Step.Deliver a c k) a c k (bytes_at (w.wires a c) k) s p is
ends_by b w (Step.Migrate q m) s p is = asks_ends w (Step.Migrate q m) q m (seat_of (length b.machines) w.nodes) s p is
ends_by b w (Step.CallOff q m) s p is = turned_ends w (Step.CallOff q m) m (node.calls_off (w.nodes m) q) s p is

-- the same machine gives the same
read_gives : (w u : WorldState) (a c : ℕ) (r : Result Packet PacketError) → u.nodes c ≡ w.nodes c → gave_read u a c r ≡ gave_read w a c r
read_gives w u a c (Ok (Packet.Data from to k m)) same = ap (λ (n : NodeState). (node.arrives n a (Data k m)).outs) same
read_gives w u a c (Ok (Packet.Ack from to k)) same = ap (λ (n : NodeState). (node.arrives n a (Ack k)).outs) same
read_gives w u a c (Err bad) same = refl

bytes_give : (w u : WorldState) (a c : ℕ) (o : Option (List ℕ)) → u.nodes c ≡ w.nodes c → gave_bytes u a c o ≡ gave_bytes w a c o
bytes_give w u a c None same = refl
bytes_give w u a c (Some bytes) same = read_gives w u a c (packet_of bytes) same

seat_gives : (w u : WorldState) (p : Pid) (m : ℕ) (o : Option ℕ) → u.nodes (unwrap_or o 0) ≡ w.nodes (unwrap_or o 0) → gave_at u p m o ≡ gave_at w p m o
seat_gives w u p m None same = refl
seat_gives w u p m (Some seat) same = ap (λ (n : NodeState). gave_some (node.asks_move n p m)) same

pub gives_same : (b : Boot) (w u : WorldState) (e : Step) → SameSeat b e w u → u.nodes (acts_on b w e) ≡ w.nodes (acts_on b w e) → SamePacket e w u → gave b u e ≡ gave b w e
gives_same b w u (Step.Turn m) seat same packet = ap (λ (n : NodeState). gave_some (node.turn b n)) same
gives_same b w u (Step.Tick m) seat same packet = ap (λ (n : NodeState). (node.tick n).outs) same
gives_same b w u (Step.Deliver a c k) seat same packet = ap (gave_bytes u a c) packet ∙ bytes_give w u a c (bytes_at (w.wires a c) k) same
gives_same b w u (Step.Migrate p m) seat same packet = ap (gave_at u p m) seat ∙ seat_gives w u p m (seat_of (length b.machines) w.nodes) same
gives_same b w u (Step.CallOff p m) seat same packet = ap (λ (n : NodeState). gave_some (node.calls_off n p)) same

pub whole_same : (b : Boot) (w u : WorldState) (e : Step) → u.nodes (acts_on b w e) ≡ w.nodes (acts_on b w e) → AreWhole w e → AreWhole u e
whole_same b w u (Step.Turn m) same h = subst (λ (n : NodeState). FreezesWhole n.kernel n.kernel.inbox) (sym same) h
whole_same b w u (Step.Tick m) same h = tt
whole_same b w u (Step.Deliver a c k) same h = tt
whole_same b w u (Step.Migrate p m) same h = tt
whole_same b w u (Step.CallOff p m) same h = tt

-- and so does what it does
pub does_there : (b : Boot) (w u : WorldState) (e : Step) (s : Said) → SameSeat b e w u → u.nodes (acts_on b w e) ≡ w.nodes (acts_on b w e) → SamePacket e w u → Does b w e s.lines s.state → (k : DoesSame b w u e s) → Does b u e k.said.lines k.said.state
does_there b w u e s seat same packet d k = record {
  fits = d.fits;
  happens = k.happens;
  again = subst AreReadBack (sym (gives_same b w u e seat same packet)) d.again;
  whole = whole_same b w u e same d.whole;
}
