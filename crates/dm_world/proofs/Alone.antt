-- A directive touches one machine, and puts packets on that machine's wires alone.
use Rattle.dm_world.proofs.Names.{Pid, keeps_over, over_in, with_over, Why, ◌≡◌, ◌≢◌, ℕ, zero, suc, ◌<◌, ◌≤◌, Bool, true, false, ◌==◌, List, [], ◌∷◌, length, refl, sym, ap, subst, ◌∙◌, inl, inr, arith, Result, ⊤, if◌then◌else◌, ◌&&◌, map}
use Rattle.dm_world.proofs.Names.{All, Option, None, Some, Ok, Err, eqb_tells, All-head, All-tail, Message, Packet, PacketError, packet_of, Load, Data, Ack, Sent, bytes_at, marked, after_mark, is_pair, Boot, images_are_valid, Line}
use Rattle.dm_world.proofs.Names.{at_machine, Step, Out, ActsLawfully, IsFrom, IsLawfulOut, MayArrive, Acted, Acts, Goes, Worn, NodeState, here, spoken, with_packet, arrives_lawfully, asks_lawfully, ticks_lawfully, turns_lawfully}
use Rattle.dm_world.proofs.Seats.{seat_within}
use Rattle.dm_world.proofs.Names.{MayAskAt, asks_at, seat_of, unwrap_or}
use Rattle.dm_world.proofs.Names.{ActsAlone, acts_on, bytes_of, MayDeliver, MayRead, MayStep, MeetsSome, Happened, Says, WorldState, WornOut, acted, arrives, delivers, reads, turned, world_step, calls_off_lawfully}
use Rattle.dm_packet.specs.declared.Packet.TheVariants as packet
use Rattle.dm_schedule.specs.declared.Step.TheVariants as step
use Rattle.dm_node.specs.declared.out.Out.TheVariants as out
use Rattle.dm_node.specs.Acts as node

-- packets of machine m go on its wires
elsewhere : {X : Type 0} (from to a c : ℕ) (x y : X) → from ≢ a → (if is_pair from to a c then x else y) ≡ y
elsewhere from to a c x y apart =
    elim (eqb_tells from a) [
      | inl e ↦ absurd (apart e.1)
      | inr e ↦ ap (λ (t : Bool). if t && (to == c) then x else y) e.0
    ]

packet_elsewhere : (wires : ℕ → ℕ → List Sent) (p : Packet) (m a c : ℕ) → IsFrom m p → a ≢ m → with_packet wires p a c ≡ wires a c
packet_elsewhere wires (packet.Data from to k w) m a c e apart = elsewhere from to a c _ (wires a c) (λ same. apart (sym same ∙ e))
packet_elsewhere wires (packet.Ack from to k) m a c e apart = elsewhere from to a c _ (wires a c) (λ same. apart (sym same ∙ e))

pub spoken_elsewhere : (outs : List Out) (wires : ℕ → ℕ → List Sent) (m a c : ℕ) → All (IsLawfulOut m) outs → a ≢ m → (spoken wires outs).wires a c ≡ wires a c
spoken_elsewhere [] wires m a c h apart = refl
spoken_elsewhere (out.Says l ∷ outs) wires m a c h apart = spoken_elsewhere outs wires m a c (All-tail (IsLawfulOut m) (out.Says l) outs h) apart
spoken_elsewhere (out.Sends p ∷ outs) wires m a c h apart =
    let lawful = All-head (IsLawfulOut m) (out.Sends p) outs h in
    spoken_elsewhere outs (with_packet wires p) m a c (All-tail (IsLawfulOut m) (out.Sends p) outs h) apart ∙ packet_elsewhere wires p m a c lawful.1 apart

-- another machine is as it was
pub other_machine : {X : Type 0} (f : ℕ → X) (m c : ℕ) (x : X) → c ≢ m → at_machine f m x c ≡ f c
other_machine f m c x apart =
    elim (eqb_tells m c) [
      | inl e ↦ absurd (apart (sym e.1))
      | inr e ↦ ap (λ (t : Bool). if t then x else f c) e.0
    ]

abbrev pub AloneIn : ℕ → WorldState → Option Happened → Type 0
AloneIn m w None = ⊤
AloneIn m w (Some (Says s)) = ActsAlone m w s.state
AloneIn m w (Some (WornOut from to)) = ⊤

acted_alone : (w : WorldState) (e : Step) (m : ℕ) (d : Acted) → ActsLawfully m d → ActsAlone m w (acted w e m d).state
acted_alone w e m d h =
    record {
      nodes = λ c apart. other_machine w.nodes m c d.state apart;
      wires = λ a c apart. ap (map bytes_of) (spoken_elsewhere d.outs w.wires m a c h.outs apart);
    }

turned_alone : (w : WorldState) (e : Step) (m : ℕ) (o : Option Acts) → ((a : Acted) → o ≡ Some (Goes a) → ActsLawfully m a) → AloneIn m w (turned w e m o)
turned_alone w e m None h = tt
turned_alone w e m (Some (Goes d)) h = acted_alone w e m d (h d refl)
turned_alone w e m (Some (Worn from to)) h = tt

-- who has ended is on no machine and no wire
kept_alone : (w : WorldState) (kept : Pid → Option Why) (m : ℕ) (o : Option Happened) → AloneIn m (record w { ended = kept }) o → AloneIn m w o
kept_alone w kept m None h = tt
kept_alone w kept m (Some (Says s)) h = record { nodes = h.nodes; wires = h.wires }
kept_alone w kept m (Some (WornOut from to)) h = tt

-- a mark changes no bytes
marked_bytes : (ps : List Sent) (k : ℕ) → map bytes_of (marked ps k) ≡ map bytes_of ps
marked_bytes [] k = refl
marked_bytes (p ∷ ps) zero = refl
marked_bytes (p ∷ ps) (suc k) = ap (λ xs. p.bytes ∷ xs) (marked_bytes ps k)

either_bytes : (t : Bool) (ps : List Sent) (k : ℕ) → map bytes_of (if t then marked ps k else ps) ≡ map bytes_of ps
either_bytes true ps k = marked_bytes ps k
either_bytes false ps k = refl

marked_alone : (w : WorldState) (a b k m : ℕ) (o : Option Happened) → AloneIn m (record w { wires = after_mark w.wires a b k }) o → AloneIn m w o
marked_alone w a b k m None h = tt
marked_alone w a b k m (Some (Says s)) h = record { nodes = h.nodes; wires = λ x y apart. h.wires x y apart ∙ either_bytes (is_pair a b x y) (w.wires x y) k }
marked_alone w a b k m (Some (WornOut from to)) h = tt

-- a packet arrives
came_alone : (w : WorldState) (e : Step) (a c : ℕ) (l : Load Message) → here (w.nodes c) ≡ c → MayArrive (w.nodes c) a l → AloneIn c w (arrives w e a c l)
came_alone w e a c l h may =
    acted_alone w e c (node.arrives (w.nodes c) a l) (subst (λ m. ActsLawfully m (node.arrives (w.nodes c) a l)) h (arrives_lawfully (w.nodes c) a l may))

from_sender : (n : NodeState) (from a : ℕ) (l : Load Message) → from ≡ a → MayArrive n from l → MayArrive n a l
from_sender n from a l e h = subst (λ k. MayArrive n k l) e h

reads_alone : (w : WorldState) (e : Step) (a c : ℕ) (r : Result Packet PacketError) → here (w.nodes c) ≡ c → MayRead w a c r → AloneIn c w (reads w e a c r)
reads_alone w e a c (Ok (packet.Data from to k m)) h may = came_alone w e a c (Data k m) h (from_sender (w.nodes c) from a (Data k m) may.0 may.1.0)
reads_alone w e a c (Ok (packet.Ack from to k)) h may = came_alone w e a c (Ack k) h (from_sender (w.nodes c) from a (Ack k) may.0 may.1.0)
reads_alone w e a c (Err bad) h may = tt

marked_read : (w : WorldState) (a c k : ℕ) (r : Result Packet PacketError) → MayRead w a c r → MayRead (record w { wires = after_mark w.wires a c k }) a c r
marked_read w a c k (Ok p) h = h
marked_read w a c k (Err bad) h = h

delivers_alone : (w : WorldState) (e : Step) (a c k : ℕ) (o : Option (List ℕ)) → here (w.nodes c) ≡ c → MayDeliver w a c o → AloneIn c w (delivers w e a c k o)
delivers_alone w e a c k None h may = record { nodes = λ m apart. refl; wires = λ x y apart. refl }
delivers_alone w e a c k (Some bytes) h may =
    marked_alone w a c k c (reads (record w { wires = after_mark w.wires a c k }) e a c (packet_of bytes))
    (reads_alone (record w { wires = after_mark w.wires a c k }) e a c (packet_of bytes) h (marked_read w a c k (packet_of bytes) may))

-- the manager is asked where it is
asks_alone : (w : WorldState) (e : Step) (p : Pid) (m : ℕ) (o : Option ℕ) → ((s : ℕ) → o ≡ Some s → here (w.nodes s) ≡ s) → m ≤ 15 → MayAskAt w o → AloneIn (unwrap_or o 0) w (asks_at w e p m o)
asks_alone w e p m None h small may = record { nodes = λ c apart. refl; wires = λ a c apart. refl }
asks_alone w e p m (Some s) h small may = turned_alone w e s (node.asks_move (w.nodes s) p m) (λ a f. subst (λ k. ActsLawfully k a) (h s refl) (asks_lawfully (w.nodes s) p m a small may.0 may.1 f))

step_alone : (b : Boot) (w : WorldState) (e : Step) → images_are_valid b.images ≡ true → length b.machines ≤ 16 → ((m : ℕ) → m < length b.machines → here (w.nodes m) ≡ m) → MayStep b w e
    → AloneIn (acts_on b w e) w (world_step b w e)
step_alone b w (step.Turn m) images few h may =
    let o = node.turn b (w.nodes m) in
    kept_alone w (with_over w.ended (over_in o)) m (world_step b w (step.Turn m))
    (turned_alone (keeps_over w o) (step.Turn m) m o (λ a e. subst (λ k. ActsLawfully k a) (h m may.0) (turns_lawfully b (w.nodes m) a images may.1 may.2 e)))
step_alone b w (step.Tick m) images few h may =
    acted_alone w (step.Tick m) m (node.tick (w.nodes m)) (subst (λ k. ActsLawfully k (node.tick (w.nodes m))) (h m may.0) (ticks_lawfully (w.nodes m) may.1))
step_alone b w (step.Deliver a c k) images few h may = delivers_alone w (step.Deliver a c k) a c k (bytes_at (w.wires a c) k) (h c may.1) may.3
step_alone b w (step.Migrate p m) images few h may =
    let within : m < length b.machines = may.0 in
    let small : m ≤ 15 = omega (arith, within, few) in
    asks_alone w (step.Migrate p m) p m (seat_of (length b.machines) w.nodes) (λ s e. h s (seat_within (length b.machines) w.nodes s e)) small may.1
step_alone b w (step.CallOff p m) images few h may =
    turned_alone w (step.CallOff p m) m (node.calls_off (w.nodes m) p)
    (λ a e. subst (λ k. ActsLawfully k a) (h m may.0) (calls_off_lawfully (w.nodes m) p a may.1 may.2 e))

-- so is the world that the code comes to
alone_met : (m : ℕ) (w s : WorldState) (lines : List Line) (o : Option Happened) → MeetsSome s lines o → AloneIn m w o → ActsAlone m w s
alone_met m w s lines None met h = absurd met
alone_met m w s lines (Some g) met h =
    let P : Happened → Type 0 = λ x. AloneIn m w (Some x) in
    subst P (sym met.happened) h

pub alone : (b : Boot) (w s : WorldState) (e : Step) (lines : List Line) → images_are_valid b.images ≡ true → length b.machines ≤ 16 → ((m : ℕ) → m < length b.machines → here (w.nodes m) ≡ m) → MayStep b w e
    → MeetsSome s lines (world_step b w e) → ActsAlone (acts_on b w e) w s
alone b w s e lines images few h may met = alone_met (acts_on b w e) w s lines (world_step b w e) met (step_alone b w e images few h may)
