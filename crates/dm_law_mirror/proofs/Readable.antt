-- Packets are read again, from the start on and after each directive.
use Rattle.dm_law_mirror.proofs.Names.{◌≡◌, ℕ, ◌+◌, List, [], ◌∷◌, refl, subst, Option, None, Some, Result, Err, Packet, Line, PacketError, packet_of, Data, Ack, bytes_at, after_mark, Boot, Step, Turned, Acts, Goes, Worn, StaysAt}
use Rattle.dm_law_mirror.proofs.Names.{asks_move_stays, turn_stays, WorldState, Said, acted, delivers, reads, world_step, MayDeliver, MayRead, MayStep, AreReadBack, IsReadable, gave, gave_bytes, gave_read, gave_some, calls_off_stays}
use Rattle.dm_law_mirror.proofs.Names.{keeps_over}
use Rattle.dm_world.proofs.Names.{Ok}
use Rattle.dm_world.specs.World.{Says, asks_at, seat_of, turned}
use Rattle.dm_world.specs.Readable.{gave_at}
use Rattle.dm_law_mirror.proofs.Names.{Pid, length}
use Rattle.dm_kernel.specs.Asking as asking
use Rattle.dm_kernel.specs.Coming as coming
use Rattle.dm_kernel.specs.Turn as kernel
use Rattle.dm_node.specs.Acts as node
use Rattle.dm_node.specs.May as node_may
use Rattle.dm_law_mirror.proofs.Deliver.Outs.{arrival_readable, tick_readable, turn_readable}

-- a turn, or what the manager tells a process
acts_readable : (w : WorldState) (e : Step) (m : ℕ) (t : Turned) (a : Acts) (s : Said) → t.state.here ≡ (w.nodes m).kernel.here → node.acts (record (w.nodes m) { kernel = t.state }) t.parts ≡ a → turned w e m (Some a) ≡ Some (Says s)
    → AreReadBack (gave_some (Some a)) → IsReadable w → IsReadable s.state
acts_readable w e m t (Goes d) s here does is again h =
    let same : acted w e m d ≡ s = cc in subst (λ (x : Said). IsReadable x.state) same (turn_readable w e m t d here does again h)
acts_readable w e m t (Worn from to) s here does is again h = cc

turn_is_readable : (w : WorldState) (e : Step) (m : ℕ) (o : Option Turned) (s : Said) → StaysAt (w.nodes m).kernel.here o → turned w e m (node.turns (w.nodes m) o) ≡ Some (Says s) → AreReadBack (gave_some (node.turns (w.nodes m) o)) → IsReadable w → IsReadable s.state
turn_is_readable w e m None s stays is again h = cc
turn_is_readable w e m (Some t) s stays is again h = acts_readable w e m t (node.acts (record (w.nodes m) { kernel = t.state }) t.parts) s stays refl is again h

-- a delivery
read_readable : (w : WorldState) (a c k : ℕ) (r : Result Packet PacketError) (s : Said) → MayRead w a c r → reads (record w { wires = after_mark w.wires a c k }) (Step.Deliver a c k) a c r ≡ Some (Says s) → AreReadBack (gave_read w a c r) → IsReadable w → IsReadable s.state
read_readable w a c k (Ok (Packet.Data from to n m)) s may e again h =
    let same : acted (record w { wires = after_mark w.wires a c k }) (Step.Deliver a c k) c (node.arrives (w.nodes c) a (Data n m)) ≡ s = cc in
    let fits = subst (λ (i : ℕ). node_may.MayArrive (w.nodes c) i (Data n m)) may.0 may.1.0 in
    subst (λ (x : Said). IsReadable x.state) same (arrival_readable w (Step.Deliver a c k) a c k (Data n m) fits.fits again h)
read_readable w a c k (Ok (Packet.Ack from to n)) s may e again h =
    let same : acted (record w { wires = after_mark w.wires a c k }) (Step.Deliver a c k) c (node.arrives (w.nodes c) a (Ack n)) ≡ s = cc in
    let fits = subst (λ (i : ℕ). node_may.MayArrive (w.nodes c) i (Ack n)) may.0 may.1.0 in
    subst (λ (x : Said). IsReadable x.state) same (arrival_readable w (Step.Deliver a c k) a c k (Ack n) fits.fits again h)
read_readable w a c k (Err bad) s may e again h = absurd may

deliver_readable : (w : WorldState) (a c k : ℕ) (o : Option (List ℕ)) (s : Said) → MayDeliver w a c o → delivers w (Step.Deliver a c k) a c k o ≡ Some (Says s) → AreReadBack (gave_bytes w a c o) → IsReadable w → IsReadable s.state
deliver_readable w a c k None s may e again h =
    let same : record { state = record w { groups = w.groups + 1 }; lines = Line.Head (Step.Deliver a c k) ∷ Line.Nothing ∷ [] } ≡ s = cc in subst (λ (x : Said). IsReadable x.state) same (record { reads = h.reads; out = h.out })
deliver_readable w a c k (Some bytes) s may e again h = read_readable w a c k (packet_of bytes) s may e again h

-- the manager is asked where it is; while it is on its way nothing is put
ask_readable : (w : WorldState) (p : Pid) (m : ℕ) (o : Option ℕ) (s : Said) → asks_at w (Step.Migrate p m) p m o ≡ Some (Says s) → AreReadBack (gave_at w p m o) → IsReadable w → IsReadable s.state
ask_readable w p m None s e again h =
    let same : record { state = record w { groups = w.groups + 1 }; lines = Line.Head (Step.Migrate p m) ∷ Line.Away ∷ [] } ≡ s = cc in subst (λ (x : Said). IsReadable x.state) same (record { reads = h.reads; out = h.out })
ask_readable w p m (Some seat) s e again h = turn_is_readable w (Step.Migrate p m) seat (asking.asks_move (w.nodes seat).kernel p m) s (asks_move_stays (w.nodes seat).kernel p m) e again h

pub readable_step : (b : Boot) (w : WorldState) (e : Step) (s : Said) → MayStep b w e → world_step b w e ≡ Some (Says s) → AreReadBack (gave b w e) → IsReadable w → IsReadable s.state
readable_step b w (Step.Turn m) s may happens again h =
    turn_is_readable (keeps_over w (node.turn b (w.nodes m))) (Step.Turn m) m (kernel.turn b (w.nodes m).kernel) s (turn_stays b (w.nodes m).kernel) happens again (record { reads = h.reads; out = h.out })
readable_step b w (Step.Tick m) s may happens again h =
    let same : acted w (Step.Tick m) m (node.tick (w.nodes m)) ≡ s = cc in subst (λ (x : Said). IsReadable x.state) same (tick_readable w (Step.Tick m) m again h)
readable_step b w (Step.Deliver a c k) s may happens again h = deliver_readable w a c k (bytes_at (w.wires a c) k) s may.3 happens again h
readable_step b w (Step.Migrate p m) s may happens again h = ask_readable w p m (seat_of (length b.machines) w.nodes) s happens again h
readable_step b w (Step.CallOff p m) s may happens again h = turn_is_readable w (Step.CallOff p m) m (coming.calls_off (w.nodes m).kernel p) s (calls_off_stays (w.nodes m).kernel p) happens again h
