-- A directive acts on one machine.
use Rattle.dm_law_mirror.proofs.Names.{◌≡◌, ℕ, zero, suc, ◌+◌, ◌==◌, ◌&&◌, Bool, true, false, List, [], ◌∷◌, map, refl, ap, ◌∙◌, sym, subst, arith, ⊤, if◌then◌else◌, Option, None, Some, Result, Err, nat_tests, append-nil, All-nil, Message}
use Rattle.dm_law_mirror.proofs.Names.{Packet, Line, PacketError, packet_of, Sent, bytes_at, after_mark, Data, Ack, Boot, Step, KernelState, Turned, Pid, NodeState, here, Acted, Acts, Goes, StaysAt, asks_move_stays, WorldState, Said, acted}
use Rattle.dm_law_mirror.proofs.Names.{arrives, reads, delivers, world_step, IsFresh, PutsFrom, marked_by, ActsLocally, SamePacket, unnumbered, DoesSame, ReadsLocally, NothingComes, AsLong, length_marked, calls_off_stays, length, Why}
use Rattle.dm_law_mirror.proofs.Names.{keeps_over, over_in, with_over}
use Rattle.dm_world.proofs.Names.{Ok}
use Rattle.dm_wire.specs.Sent.{marked}
use Rattle.dm_stream.specs.Packets.{Load}
use Rattle.dm_world.specs.World.{Says, asks_at, seat_of, turned}
use Rattle.dm_world.specs.Local.{acts_on}
use Rattle.std.specs.Option.{unwrap_or}
use Rattle.dm_law_mirror.proofs.Seats.{seat_same}
use Rattle.dm_kernel.specs.Turn as kernel
use Rattle.dm_kernel.specs.Asking as asking
use Rattle.dm_kernel.specs.Coming as coming
use Rattle.dm_node.specs.Acts as machine
use Rattle.dm_law_mirror.proofs.LocalLines.{spoken_unnumbered, spoken_same}
use Rattle.dm_law_mirror.proofs.Outs.{IsFrom, ActsFrom, acts_from, tick_from, arrives_from, packets_to, all_fresh, spoken_off, spoken_on}

-- a kernel stays on its machine, whatever a turn gives
abbrev pub KernelStays : Type 0
KernelStays = (b : Boot) (k : KernelState) (t : Turned) → kernel.turn b k ≡ Some t → t.state.here ≡ k.here

-- what an event of machine m gives to the world
acted_puts : (w : WorldState) (kept : Pid → Option Why) (e : Step) (m : ℕ) (d : Acted) → IsFrom m d → PutsFrom m (λ c. packets_to c d.outs) w (acted (record w { ended = kept }) e m d).state
acted_puts w kept e m d h = record {
  nodes = λ n apart. ap (λ (c : Bool). if c then d.state else w.nodes n) (let f : (m == n) ≡ false = grind (arith, nat_tests) in f);
  others = λ a c apart. spoken_off m d.outs w.wires a c h.outs apart;
  own = λ c. spoken_on m d.outs w.wires c h.outs;
  fresh = λ c. all_fresh c d.outs;
  groups = refl;
}

-- a turn
abbrev ActsSome : ℕ → Option Acts → Type 0
ActsSome m None = ⊤
ActsSome m (Some a) = ActsFrom m a

record Turns (e : Step) (m : ℕ) (w : WorldState) (o : Option Acts) (s : Said) : Type 0 where
  acted_ : Acted
  is : o ≡ Some (Goes acted_)
  from : IsFrom m acted_
  said : s ≡ acted w e m acted_

turned_is : (e : Step) (m : ℕ) (w : WorldState) (o : Option Acts) (s : Said) → ActsSome m o → turned w e m o ≡ Some (Says s) → Turns e m w o s
turned_is e m w (Some (Goes d)) s h is = record { acted_ = d; is = refl; from = h; said = cc }
turned_is e m w _ s h is = cc

turns_from : (n : NodeState) (m : ℕ) (o : Option Turned) → here n ≡ m → ((t : Turned) → o ≡ Some t → t.state.here ≡ n.kernel.here) → ActsSome m (machine.turns n o)
turns_from n m None is stays = tt
turns_from n m (Some t) is stays = acts_from m t.parts (record n { kernel = t.state }) (stays t refl ∙ is)

asks_is : (w : WorldState) (p : Pid) (m seat : ℕ) (s : Said) → here (w.nodes seat) ≡ seat → turned w (Step.Migrate p m) seat (machine.asks_move (w.nodes seat) p m) ≡ Some (Says s) → Turns (Step.Migrate p m) seat w (machine.asks_move (w.nodes seat) p m) s
asks_is w p m seat s is happens =
    let k = (w.nodes seat).kernel in
    -- the machine with the manager has it tell a process or a server to move
    let asks_here : (o : Option Turned) (h : ℕ) → StaysAt h o → (t : Turned) → o ≡ Some t → t.state.here ≡ h = λ o h stays t e. subst (StaysAt h) e stays in
    turned_is (Step.Migrate p m) seat w (machine.asks_move (w.nodes seat) p m) s
    (turns_from (w.nodes seat) seat (asking.asks_move k p m) is (asks_here (asking.asks_move k p m) k.here (asks_move_stays k p m))) happens

calls_is : (w : WorldState) (p : Pid) (m : ℕ) (s : Said) → here (w.nodes m) ≡ m → turned w (Step.CallOff p m) m (machine.calls_off (w.nodes m) p) ≡ Some (Says s) → Turns (Step.CallOff p m) m w (machine.calls_off (w.nodes m) p) s
calls_is w p m s is happens =
    let k = (w.nodes m).kernel in
    -- the machine calls off what comes to it
    let called_here : (o : Option Turned) (h : ℕ) → StaysAt h o → (t : Turned) → o ≡ Some t → t.state.here ≡ h = λ o h stays t e. subst (StaysAt h) e stays in
    turned_is (Step.CallOff p m) m w (machine.calls_off (w.nodes m) p) s (turns_from (w.nodes m) m (coming.calls_off k p) is (called_here (coming.calls_off k p) k.here (calls_off_stays k p))) happens

-- a delivery: what comes of the packet that some bytes spell
record Comes (w : WorldState) (e : Step) (a c : ℕ) (r : Result Packet PacketError) (s : Said) : Type 0 where
  load : Load Message
  is : (u : WorldState) → reads u e a c r ≡ arrives u e a c load
  said : s ≡ acted w e c (machine.arrives (w.nodes c) a load)

comes : (w : WorldState) (e : Step) (a c : ℕ) (r : Result Packet PacketError) (s : Said) → reads w e a c r ≡ Some (Says s) → Comes w e a c r s
comes w e a c (Ok (Packet.Data from to k m)) s is = record { load = Data k m; is = λ u. refl; said = cc }
comes w e a c (Ok (Packet.Ack from to k)) s is = record { load = Ack k; is = λ u. refl; said = cc }
comes w e a c (Err bad) s is = cc

-- where no such packet is to be delivered, there is none to mark
marked_none : (ps : List Sent) (k : ℕ) → bytes_at ps k ≡ None → marked ps k ≡ ps
marked_none [] k e = refl
marked_none (p ∷ ps) zero e = cc
marked_none (p ∷ ps) (suc k) e = ap (λ (qs : List Sent). p ∷ qs) (marked_none ps k e)

mark_by : (wires : ℕ → ℕ → List Sent) (a c k x y : ℕ) (b : Bool) → ((a == x) && (c == y)) ≡ b → bytes_at (wires a c) k ≡ None → (if b then marked (wires x y) k else wires x y) ≡ wires x y
mark_by wires a c k x y b e none = grind (arith, nat_tests, marked_none)

nothing_puts : (w : WorldState) (a c k : ℕ) → bytes_at (w.wires a c) k ≡ None → PutsFrom c (λ y. []) (marked_by (Step.Deliver a c k) w) (record w { groups = w.groups + 1 })
nothing_puts w a c k none = record {
  nodes = λ n apart. refl;
  others = λ x y apart. sym (mark_by w.wires a c k x y ((a == x) && (c == y)) refl none);
  own = λ y. sym (append-nil (after_mark w.wires a c k c y) ∙ mark_by w.wires a c k c y ((a == c) && (c == y)) refl none);
  fresh = λ y. All-nil IsFresh;
  groups = refl;
}

pub nothing_comes : NothingComes
nothing_comes b w a c k none = ap (delivers w (Step.Deliver a c k) a c k) none

-- what DoesSame says, of this machine
record SameAt (b : Boot) (w u : WorldState) (e : Step) (s : Said) (m : ℕ) : Type 0 where
  said : Said
  happens : world_step b u e ≡ Some (Says said)
  node : said.state.nodes m ≡ s.state.nodes m
  more : ℕ → List Sent
  puts : PutsFrom m more (marked_by e w) s.state
  puts_there : PutsFrom m more (marked_by e u) said.state
  lines : map unnumbered said.lines ≡ map unnumbered s.lines
  exact : AsLong m w u → said.lines ≡ s.lines

does_same : (b : Boot) (w u : WorldState) (e : Step) (s : Said) (m : ℕ) → acts_on b w e ≡ m → SameAt b w u e s m → DoesSame b w u e s
does_same b w u e s m acts h =
    let k = subst (SameAt b w u e s) (sym acts) h in
    record { said = k.said; happens = k.happens; node = k.node; more = k.more; puts = k.puts; puts_there = k.puts_there; lines = k.lines; exact = k.exact }

-- an event that gives the same to both worlds
acted_same : (b : Boot) (w u : WorldState) (e : Step) (s : Said) (m : ℕ) (kept there : Pid → Option Why) (d : Acted) → acts_on b w e ≡ m → IsFrom m d → s ≡ acted (record (marked_by e w) { ended = kept }) e m d
    → world_step b u e ≡ Some (Says (acted (record (marked_by e u) { ended = there }) e m d)) → DoesSame b w u e s
acted_same b w u e s m kept there d acts from said happens =
    let marked_long : (m : ℕ) (e : Step) (w u : WorldState) → AsLong m w u → AsLong m (marked_by e w) (marked_by e u) = λ m e w u h n. grind (arith, nat_tests, length_marked) in
    let acted_node : (w : WorldState) (e : Step) (m : ℕ) (d : Acted) → (acted w e m d).state.nodes m ≡ d.state = λ w e m d. ap (λ (c : Bool). if c then d.state else w.nodes m) (let f : (m == m) ≡ true = grind (arith, nat_tests) in f) in
    let x = record (marked_by e w) { ended = kept } in
    let y = record (marked_by e u) { ended = there } in
    let acted_unnumbered : (w u : WorldState) (e : Step) (m : ℕ) (d : Acted) → map unnumbered (acted u e m d).lines ≡ map unnumbered (acted w e m d).lines =
    λ w u e m d. ap (λ (ls : List Line). unnumbered (Line.Head e) ∷ ls) (spoken_unnumbered u.wires w.wires d.outs) in
    let acted_exact : (w u : WorldState) (e : Step) (m : ℕ) (d : Acted) → IsFrom m d → AsLong m w u → (acted u e m d).lines ≡ (acted w e m d).lines =
    λ w u e m d from long. ap (λ (ls : List Line). Line.Head e ∷ ls) (spoken_same m u.wires w.wires d.outs from.outs long) in
    does_same b w u e s m acts (record {
      said = acted y e m d;
      happens = happens;
      node = acted_node y e m d ∙ sym (ap (λ (z : Said). z.state.nodes m) said ∙ acted_node x e m d);
      more = λ n. packets_to n d.outs;
      puts = subst (λ (z : Said). PutsFrom m (λ n. packets_to n d.outs) (marked_by e w) z.state) (sym said) (acted_puts (marked_by e w) kept e m d from);
      puts_there = acted_puts (marked_by e u) there e m d from;
      lines = acted_unnumbered x y e m d ∙ ap (λ (z : Said). map unnumbered z.lines) (sym said);
      exact = λ long. acted_exact x y e m d from (marked_long m e w u long) ∙ ap (λ (z : Said). z.lines) (sym said);
    })

-- the same machine does the same
delivers_same : (b : Boot) (w u : WorldState) (a c k : ℕ) (s : Said) (o : Option (List ℕ)) → bytes_at (w.wires a c) k ≡ o → bytes_at (u.wires a c) k ≡ o → here (w.nodes c) ≡ c → u.nodes c ≡ w.nodes c
    → delivers w (Step.Deliver a c k) a c k o ≡ Some (Says s) → DoesSame b w u (Step.Deliver a c k) s
delivers_same b w u a c k s None here_is there_is is node happens =
    let e = Step.Deliver a c k in
    let x : Said = record { state = record w { groups = w.groups + 1 }; lines = Line.Head e ∷ Line.Nothing ∷ [] } in
    let same : s ≡ x = cc in
    record {
      said = record { state = record u { groups = u.groups + 1 }; lines = Line.Head e ∷ Line.Nothing ∷ [] };
      happens = nothing_comes b u a c k there_is;
      node = node ∙ ap (λ (z : Said). z.state.nodes c) (sym same);
      more = λ n. [];
      puts = subst (λ (z : Said). PutsFrom c (λ n. []) (marked_by e w) z.state) (sym same) (nothing_puts w a c k here_is);
      puts_there = nothing_puts u a c k there_is;
      lines = ap (λ (z : Said). map unnumbered z.lines) (sym same);
      exact = λ long. ap (λ (z : Said). z.lines) (sym same);
    }
delivers_same b w u a c k s (Some bytes) here_is there_is is node happens =
    let e = Step.Deliver a c k in
    let x = marked_by e w in
    let y = marked_by e u in
    let p = comes x e a c (packet_of bytes) s happens in
    let d = machine.arrives (w.nodes c) a p.load in
    let same : machine.arrives (u.nodes c) a p.load ≡ d = ap (λ (n : NodeState). machine.arrives n a p.load) node in
    acted_same b w u e s c w.ended u.ended d refl (arrives_from c (w.nodes c) a p.load is) p.said (ap (delivers u e a c k) there_is ∙ (p.is y ∙ ap (λ (v : Acted). Some (Says (acted y e c v))) same))

-- nothing is told to move, and no machine changes
away_puts : (w : WorldState) → PutsFrom 0 (λ y. []) w (record w { groups = w.groups + 1 })
away_puts w = record { nodes = λ n apart. refl; others = λ x y apart. refl; own = λ y. sym (append-nil (w.wires 0 y)); fresh = λ y. All-nil IsFresh; groups = refl }

-- the machine with the manager, or none, is asked
asks_same : (b : Boot) (w u : WorldState) (p : Pid) (m : ℕ) (s : Said) (o : Option ℕ) → seat_of (length b.machines) w.nodes ≡ o → seat_of (length b.machines) u.nodes ≡ o → here (w.nodes (unwrap_or o 0)) ≡ unwrap_or o 0
    → u.nodes (unwrap_or o 0) ≡ w.nodes (unwrap_or o 0) → asks_at w (Step.Migrate p m) p m o ≡ Some (Says s) → DoesSame b w u (Step.Migrate p m) s
asks_same b w u p m s None seat there is node happens =
    let e = Step.Migrate p m in
    let x : Said = record { state = record w { groups = w.groups + 1 }; lines = Line.Head e ∷ Line.Away ∷ [] } in
    let same : x ≡ s = cc in
    does_same b w u e s 0 (ap (λ (q : Option ℕ). unwrap_or q 0) seat) (record {
      said = record { state = record u { groups = u.groups + 1 }; lines = Line.Head e ∷ Line.Away ∷ [] };
      happens = ap (asks_at u e p m) there;
      node = node ∙ ap (λ (z : Said). z.state.nodes 0) same;
      more = λ n. [];
      puts = subst (λ (z : Said). PutsFrom 0 (λ n. []) w z.state) same (away_puts w);
      puts_there = away_puts u;
      lines = ap (λ (z : Said). map unnumbered z.lines) same;
      exact = λ long. ap (λ (z : Said). z.lines) same;
    })
asks_same b w u p m s (Some k) seat there is node happens =
    let t = asks_is w p m k s is happens in
    acted_same b w u (Step.Migrate p m) s k w.ended u.ended t.acted_ (ap (λ (q : Option ℕ). unwrap_or q 0) seat) t.from t.said
    (ap (asks_at u (Step.Migrate p m) p m) there ∙ ap (turned u (Step.Migrate p m) k) (ap (λ (n : NodeState). machine.asks_move n p m) node ∙ t.is))

pub reads_locally : KernelStays → ReadsLocally
reads_locally stays b w u (Step.Turn m) s is acts node same happens =
    let turn_is : KernelStays → (b : Boot) (w : WorldState) (m : ℕ) (s : Said) → here (w.nodes m) ≡ m → world_step b w (Step.Turn m) ≡ Some (Says s) → Turns (Step.Turn m) m (keeps_over w (machine.turn b (w.nodes m))) (machine.turn b (w.nodes m)) s =
    λ stays b w m s is happens. turned_is (Step.Turn m) m (keeps_over w (machine.turn b (w.nodes m))) (machine.turn b (w.nodes m)) s (turns_from (w.nodes m) m (kernel.turn b (w.nodes m).kernel) is (λ t e. stays b (w.nodes m).kernel t e)) happens in
    let t = turn_is stays b w m s is happens in
    acted_same b w u (Step.Turn m) s m (with_over w.ended (over_in (machine.turn b (w.nodes m)))) (with_over u.ended t.acted_.state.kernel.over) t.acted_ refl t.from t.said
    (ap (λ (o : Option Acts). turned (keeps_over u o) (Step.Turn m) m o) (ap (machine.turn b) node ∙ t.is))
reads_locally stays b w u (Step.Tick m) s is acts node same happens =
    let said : s ≡ acted w (Step.Tick m) m (machine.tick (w.nodes m)) = cc in
    acted_same b w u (Step.Tick m) s m w.ended u.ended (machine.tick (w.nodes m)) refl (tick_from m (w.nodes m) is) said (ap (λ (n : NodeState). Some (Says (acted u (Step.Tick m) m (machine.tick n)))) node)
reads_locally stays b w u (Step.Deliver a c k) s is acts node same happens = delivers_same b w u a c k s (bytes_at (w.wires a c) k) refl same is node happens
reads_locally stays b w u (Step.Migrate p m) s is acts node same happens =
    let n = length b.machines in
    let o = seat_of n w.nodes in
    asks_same b w u p m s o refl (seat_same n w.nodes u.nodes o (seat_of n u.nodes) refl refl acts node) is node happens
reads_locally stays b w u (Step.CallOff p m) s is acts node same happens =
    let t = calls_is w p m s is happens in
    acted_same b w u (Step.CallOff p m) s m w.ended u.ended t.acted_ refl t.from t.said (ap (turned u (Step.CallOff p m) m) (ap (λ (n : NodeState). machine.calls_off n p) node ∙ t.is))

-- a world does what it does
pub acts_locally : KernelStays → ActsLocally
acts_locally stays b w e s is happens =
    let d = reads_locally stays b w w e s is refl refl (let e_ : SamePacket e w w = grind (arith, nat_tests) in e_) happens in
    (d.more, d.puts)
