-- Worlds that are the same but for the number of groups and for who ended in a machine's last turn go on the same.
use Rattle.dm_law_mirror.proofs.Names.{◌≡◌, ℕ, zero, suc, ◌+◌, ◌==◌, Bool, true, false, if◌then◌else◌, is_some, List, [], ◌∷◌, length, refl, ap, ◌∙◌, sym, subst, Option, None, Some, Result, Err, Pid, Packet, PacketError, packet_of, bytes_at, Boot, Step, Line, or, NodeState, WorldState}
use Rattle.dm_law_mirror.proofs.Names.{Said, Happened, world_step, keeps_over, acted, delivers, reads, marked_by}
use Rattle.dm_world.proofs.Names.{Ok}
use Rattle.dm_kernel.specs.State.{manager_in}
use Rattle.dm_onekernel.specs.Boot.{manager}
use Rattle.dm_node.specs.Acts as node
use Rattle.dm_node.specs.Out.{Acted, Acts, Goes, Worn}
use Rattle.dm_stream.specs.Packets.{Ack, Data, Load}
use Rattle.dm_message.specs.declared.Message.{Message}
use Rattle.dm_world.specs.World.{Says, asks_at, seat_of, turned}
use Rattle.dm_law_runs.specs.Choices.Chosen.{NodeAs, WorldAs}
use Rattle.dm_law_runs.specs.Choices.Laws.{GoesSame, SaysSame}
use Rattle.dm_law_runs.proofs.Choices.Idle.Carried.{Over, arrives_ended, asks_ended, calls_ended, ended_acted, ended_node, ended_some, node_as, node_is, tick_ended, turn_still}

-- what happens in the other world says the same, and leads to such a world
record Same (o : Option Happened) (s : Said) : Type 0 where
  said : Said
  happens : o ≡ Some (Says said)
  lines : said.lines ≡ s.lines
  same : WorldAs s.state said.state

abbrev AllAs : WorldState → (ℕ → NodeState) → Type 0
AllAs w nodes = (m : ℕ) → NodeAs (w.nodes m) (nodes m)

-- the other world
abbrev other : WorldState → (ℕ → NodeState) → ℕ → WorldState
other w nodes groups = record w { nodes = nodes; groups = groups }

set_as : (f g : ℕ → NodeState) (m k : ℕ) (n o : NodeState) (c : Bool) → NodeAs (f k) (g k) → NodeAs n o → NodeAs (if c then n else f k) (if c then o else g k)
set_as f g m k n o true there here = here
set_as f g m k n o false there here = there

acted_as : (w : WorldState) (nodes : ℕ → NodeState) (groups : ℕ) (e : Step) (m : ℕ) (x : Over) (d : Acted) → AllAs w nodes → WorldAs (acted w e m d).state (acted (other w nodes groups) e m (ended_acted x d)).state
acted_as w nodes groups e m x d all = record { nodes = λ k. set_as w.nodes nodes m k d.state (ended_node x d.state) (m == k) (all k) (node_as x d.state); is = refl }

-- where the machine acts
goes_as : (w : WorldState) (nodes : ℕ → NodeState) (groups : ℕ) (e : Step) (m : ℕ) (x : Over) (d : Acted) (o : Option Happened) (s : Said) → AllAs w nodes → Some (Says (acted w e m d)) ≡ Some (Says s) → o ≡ Some (Says (acted (other w nodes groups) e m (ended_acted x d))) → Same o s
goes_as w nodes groups e m x d o s all is there =
    let f : acted w e m d ≡ s = cc in
    subst (Same o) f (record { said = acted (other w nodes groups) e m (ended_acted x d); happens = there; lines = refl; same = acted_as w nodes groups e m x d all })

turned_as : (w : WorldState) (nodes : ℕ → NodeState) (groups : ℕ) (e : Step) (m : ℕ) (x : Over) (o : Option Acts) (s : Said) → AllAs w nodes → turned w e m o ≡ Some (Says s) → Same (turned (other w nodes groups) e m (ended_some x o)) s
turned_as w nodes groups e m x None s all is = absurd (let f : None ≡ Some (Says s) = is in cc)
turned_as w nodes groups e m x (Some (Goes d)) s all is = goes_as w nodes groups e m x d (turned (other w nodes groups) e m (ended_some x (Some (Goes d)))) s all is refl
turned_as w nodes groups e m x (Some (Worn from to)) s all is = cc

-- a turn, that begins with nobody who has ended
turn_as : (w : WorldState) (nodes : ℕ → NodeState) (groups : ℕ) (e : Step) (m : ℕ) (o : Option Acts) (s : Said) → AllAs w nodes → turned (keeps_over w o) e m o ≡ Some (Says s) → Same (turned (keeps_over (other w nodes groups) o) e m o) s
turn_as w nodes groups e m None s all is = absurd (let f : None ≡ Some (Says s) = is in cc)
turn_as w nodes groups e m (Some (Goes d)) s all is =
    let kept = keeps_over w (Some (Goes d)) in
    goes_as kept nodes groups e m d.state.kernel.over d (turned (other kept nodes groups) e m (Some (Goes d))) s all is refl
turn_as w nodes groups e m (Some (Worn from to)) s all is = cc

-- nothing changes
still_as : (w : WorldState) (nodes : ℕ → NodeState) (groups : ℕ) (lines : List Line) (o : Option Happened) (s : Said) → AllAs w nodes → Some (Says (record { state = record w { groups = w.groups + 1 }; lines = lines })) ≡ Some (Says s)
    → o ≡ Some (Says (record { state = other w nodes (groups + 1); lines = lines })) → Same o s
still_as w nodes groups lines o s all is there =
    let x : Said = record { state = record w { groups = w.groups + 1 }; lines = lines } in
    let f : x ≡ s = cc in
    subst (Same o) f (record { said = record { state = other w nodes (groups + 1); lines = lines }; happens = there; lines = refl; same = record { nodes = all; is = refl } })

reads_as : (w : WorldState) (nodes : ℕ → NodeState) (groups : ℕ) (e : Step) (a c : ℕ) (r : Result Packet PacketError) (s : Said) → AllAs w nodes → reads w e a c r ≡ Some (Says s) → Same (reads (other w nodes groups) e a c r) s
reads_as w nodes groups e a c (Ok (Packet.Data from to k m)) s all is = arrives_as (Data k m) is
  where
    arrives_as : (l : Load Message) → Some (Says (acted w e c (node.arrives (w.nodes c) a l))) ≡ Some (Says s) → Same (Some (Says (acted (other w nodes groups) e c (node.arrives (nodes c) a l)))) s
    arrives_as l is =
        let x = (nodes c).kernel.over in
        let same : node.arrives (nodes c) a l ≡ ended_acted x (node.arrives (w.nodes c) a l) = ap (λ (n : NodeState). node.arrives n a l) (node_is (w.nodes c) (nodes c) (all c)) ∙ arrives_ended x (w.nodes c) a l in
        goes_as w nodes groups e c x (node.arrives (w.nodes c) a l) (Some (Says (acted (other w nodes groups) e c (node.arrives (nodes c) a l)))) s all is (ap (λ (d : Acted). Some (Says (acted (other w nodes groups) e c d))) same)
reads_as w nodes groups e a c (Ok (Packet.Ack from to k)) s all is = arrives_as (Ack k) is
  where
    arrives_as : (l : Load Message) → Some (Says (acted w e c (node.arrives (w.nodes c) a l))) ≡ Some (Says s) → Same (Some (Says (acted (other w nodes groups) e c (node.arrives (nodes c) a l)))) s
    arrives_as l is =
        let x = (nodes c).kernel.over in
        let same : node.arrives (nodes c) a l ≡ ended_acted x (node.arrives (w.nodes c) a l) = ap (λ (n : NodeState). node.arrives n a l) (node_is (w.nodes c) (nodes c) (all c)) ∙ arrives_ended x (w.nodes c) a l in
        goes_as w nodes groups e c x (node.arrives (w.nodes c) a l) (Some (Says (acted (other w nodes groups) e c (node.arrives (nodes c) a l)))) s all is (ap (λ (d : Acted). Some (Says (acted (other w nodes groups) e c d))) same)
reads_as w nodes groups e a c (Err bad) s all is = cc

delivers_as : (w : WorldState) (nodes : ℕ → NodeState) (groups : ℕ) (a c k : ℕ) (o : Option (List ℕ)) (s : Said) → AllAs w nodes → delivers w (Step.Deliver a c k) a c k o ≡ Some (Says s) → Same (delivers (other w nodes groups) (Step.Deliver a c k) a c k o) s
delivers_as w nodes groups a c k None s all is = still_as w nodes groups (Line.Head (Step.Deliver a c k) ∷ Line.Nothing ∷ []) (delivers (other w nodes groups) (Step.Deliver a c k) a c k None) s all is refl
delivers_as w nodes groups a c k (Some bytes) s all is = reads_as (marked_by (Step.Deliver a c k) w) nodes groups (Step.Deliver a c k) a c (packet_of bytes) s all is

-- the manager is where it is
seat_as : (k : ℕ) (f g : ℕ → NodeState) → ((m : ℕ) → NodeAs (f m) (g m)) → seat_of k g ≡ seat_of k f
seat_as zero f g all = refl
seat_as (suc k) f g all =
    let x = (g k).kernel.over in
    ap (λ (o : Option ℕ). or o (if is_some (manager_in ((g k).kernel.records manager)) then Some k else None)) (seat_as k f g all)
    ∙ ap (λ (n : NodeState). or (seat_of k f) (if is_some (manager_in (n.kernel.records manager)) then Some k else None)) (node_is (f k) (g k) (all k))

asks_as : (w : WorldState) (nodes : ℕ → NodeState) (groups : ℕ) (p : Pid) (m : ℕ) (o : Option ℕ) (s : Said) → AllAs w nodes → asks_at w (Step.Migrate p m) p m o ≡ Some (Says s) → Same (asks_at (other w nodes groups) (Step.Migrate p m) p m o) s
asks_as w nodes groups p m None s all is = still_as w nodes groups (Line.Head (Step.Migrate p m) ∷ Line.Away ∷ []) (asks_at (other w nodes groups) (Step.Migrate p m) p m None) s all is refl
asks_as w nodes groups p m (Some seat) s all is =
    let x = (nodes seat).kernel.over in
    let same : node.asks_move (nodes seat) p m ≡ ended_some x (node.asks_move (w.nodes seat) p m) = ap (λ (n : NodeState). node.asks_move n p m) (node_is (w.nodes seat) (nodes seat) (all seat)) ∙ asks_ended x (w.nodes seat) p m in
    subst (λ (o : Option Acts). Same (turned (other w nodes groups) (Step.Migrate p m) seat o) s) (sym same) (turned_as w nodes groups (Step.Migrate p m) seat x (node.asks_move (w.nodes seat) p m) s all is)

goes_by : (b : Boot) (w : WorldState) (nodes : ℕ → NodeState) (groups : ℕ) (e : Step) (s : Said) → AllAs w nodes → world_step b w e ≡ Some (Says s) → Same (world_step b (other w nodes groups) e) s
goes_by b w nodes groups (Step.Turn m) s all is =
    let same : node.turn b (nodes m) ≡ node.turn b (w.nodes m) = ap (node.turn b) (node_is (w.nodes m) (nodes m) (all m)) ∙ turn_still (nodes m).kernel.over b (w.nodes m) in
    subst (λ (o : Option Acts). Same (turned (keeps_over (other w nodes groups) o) (Step.Turn m) m o) s) (sym same) (turn_as w nodes groups (Step.Turn m) m (node.turn b (w.nodes m)) s all is)
goes_by b w nodes groups (Step.Tick m) s all is =
    let x = (nodes m).kernel.over in
    let same : node.tick (nodes m) ≡ ended_acted x (node.tick (w.nodes m)) = ap node.tick (node_is (w.nodes m) (nodes m) (all m)) ∙ tick_ended x (w.nodes m) in
    goes_as w nodes groups (Step.Tick m) m x (node.tick (w.nodes m)) (world_step b (other w nodes groups) (Step.Tick m)) s all is (ap (λ (d : Acted). Some (Says (acted (other w nodes groups) (Step.Tick m) m d))) same)
goes_by b w nodes groups (Step.Deliver a c k) s all is = delivers_as w nodes groups a c k (bytes_at (w.wires a c) k) s all is
goes_by b w nodes groups (Step.Migrate p m) s all is =
    subst (λ (o : Option ℕ). Same (asks_at (other w nodes groups) (Step.Migrate p m) p m o) s) (sym (seat_as (length b.machines) w.nodes nodes all)) (asks_as w nodes groups p m (seat_of (length b.machines) w.nodes) s all is)
goes_by b w nodes groups (Step.CallOff p m) s all is =
    let x = (nodes m).kernel.over in
    let same : node.calls_off (nodes m) p ≡ ended_some x (node.calls_off (w.nodes m) p) = ap (λ (n : NodeState). node.calls_off n p) (node_is (w.nodes m) (nodes m) (all m)) ∙ calls_ended x (w.nodes m) p in
    subst (λ (o : Option Acts). Same (turned (other w nodes groups) (Step.CallOff p m) m o) s) (sym same) (turned_as w nodes groups (Step.CallOff p m) m x (node.calls_off (w.nodes m) p) s all is)

pub goes_same : GoesSame
goes_same b w u e s h happens =
    let k = goes_by b w u.nodes u.groups e s h.nodes happens in
    subst (λ (z : WorldState). SaysSame b z e s) (sym h.is) (record { said = k.said; happens = k.happens; lines = k.lines; same = k.same })
