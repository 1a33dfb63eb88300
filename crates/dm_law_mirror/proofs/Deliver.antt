-- The delivery of a packet, world against point: a machine may take what comes, and does with it what the rule says.
pub mod Events
pub mod Stands
pub mod Moves
pub mod Goes
pub mod Outs
use Rattle.dm_law_mirror.proofs.Names.{PairStands, stream_of, ◌≡◌, ◌≢◌, ℕ, ◌+◌, ◌^◌, ◌<◌, ◌≤◌, ◌⊎◌, ◌==◌, nat_le, nat_lt, Bool, true, false, List, [], ◌∷◌, length, refl, ap, ◌∙◌, sym, subst, inl, inr, arith, if◌then◌else◌, slice_get}
use Rattle.dm_law_mirror.proofs.Names.{option_map, All, Option, None, Some, cases_Bool, eqb_tells, nat_tests, All-drop, Message, IsLawfulMessage, Packet, Step, Line, packet_of, spelling, Data, Ack, load_at, MayCome-stands, bytes_at, after_mark}
use Rattle.dm_law_mirror.proofs.Names.{Boot, IsValid, Spelled, spelled, Point, moved, behind, kept_from, at_least, Run, Placed, MayAct, WorldState, acted, arrives, delivers, reads, world_step, MayDeliver, MayRead, CountsStand, History}
use Rattle.dm_law_mirror.proofs.Names.{StandsWith, line_of, load_of, GoesOn, IsNet, arrives_net, Ok}
use Rattle.dm_law_rule.proofs.Names.{Part}
use Rattle.dm_stream.specs.Packets.{Load}
use Rattle.dm_law_mirror.proofs.Deliver.Goes.{Comes, acked_comes, early_comes, old_comes, taken_comes, IsReadAs, ReadsAs, bytes_are, bytes_for, lines_are, load_is, reads_ack, Same, arrives_sent, counts_on, net_same, few}
use Rattle.dm_law_mirror.proofs.Deliver.Outs.{begun, nothing_stands}
use Rattle.dm_stream.specs.Packets as stream
use Rattle.dm_line.specs.declared.line.Load.TheVariants as load
use Rattle.dm_law_rule.specs.Rule as group
use Rattle.dm_node.specs.Acts as node
use Rattle.dm_node.specs.Out as out

module _ (b : Boot) (w : WorldState) (pt : Point) (l : Placed) (h : History) (a c k : ℕ) (s : StandsWith b w pt l h) (counted : CountsStand w pt) (a_in : a < pt.kernel.machines) (c_in : c < pt.kernel.machines) (apart : a ≢ c) where
  there : PairStands b pt l w h a c
  there = s.pairs a c a_in c_in apart

  abbrev Does : Load Message → List Part → Type 0
  Does carried ps = Comes b w pt l h a c k s a_in c_in apart carried ps

  -- a message comes, by its number
  data_comes : (n : ℕ) (m x : Message) → load_at (h.packets a c) k ≡ Some (Data n m) → (((w.nodes c).receivers a).count ≤ n → x ≡ m) → Does (Data n x) (group.comes a c (pt.view.pair a c) (pt.view.pair c a) (load.Data n))
  data_comes n m x e same =
      let taken : ℕ = (pt.view.pair a c).taken in
      let old : List Part = Part.Says (Line.Old a c n) ∷ Part.Transmits c a (load.Ack taken) ∷ [] in
      let early : List Part = Part.Says (Line.Early a c n) ∷ Part.Transmits c a (load.Ack taken) ∷ [] in
      let next : List Part = group.takes_on a c n (kept_from (pt.view.pair a c).kept (n + 1) 8) in
      elim (cases_Bool (nat_lt n taken)) [
        | inl less ↦
            let lt : n < ((w.nodes c).receivers a).count = (let f : n < taken = grind (arith, nat_tests) in omega (arith, f, there.taken)) in
            subst (λ (t : Bool). Does (Data n x) (if t then old else if nat_lt taken n then early else next)) (sym less) (old_comes b w pt l h a c k s a_in c_in apart n m x e lt)
        | inr not_less ↦ elim (cases_Bool (nat_lt taken n)) [
          | inl more ↦
              let gt : ((w.nodes c).receivers a).count < n = (let f : taken < n = grind (arith, nat_tests) in omega (arith, f, there.taken)) in
              let came : Does (Data n x) early = subst (λ (z : Message). Does (Data n z) early) (sym (same (omega (arith, gt)))) (early_comes b w pt l h a c k s a_in c_in apart n m e gt) in
              let at_more : Does (Data n x) (if nat_lt taken n then early else next) = subst (λ (t : Bool). Does (Data n x) (if t then early else next)) (sym more) came in
              subst (λ (t : Bool). Does (Data n x) (if t then old else if nat_lt taken n then early else next)) (sym not_less) at_more
          | inr not_more ↦
              let is : n ≡ ((w.nodes c).receivers a).count = (let f : n ≡ taken = grind (arith, nat_tests) in f ∙ sym there.taken) in
              let came : Does (Data n x) next = subst (λ (z : Message). Does (Data n z) next) (sym (same (omega (arith, is)))) (taken_comes b w pt l h a c k s a_in c_in apart n m e is) in
              let at_more : Does (Data n x) (if nat_lt taken n then early else next) = subst (λ (t : Bool). Does (Data n x) (if t then early else next)) (sym not_more) came in
              subst (λ (t : Bool). Does (Data n x) (if t then old else if nat_lt taken n then early else next)) (sym not_less) at_more
        ]
      ]

  -- the directive's group, from what its parts say
  due_by : (ps : List Part) (z : Spelled) → group.arrives a c (pt.view.pair a c) (pt.view.pair c a) (slice_get (pt.view.pair a c).wire k) ≡ ps → spelled (begun pt a c k) ps ≡ Some z → group.group_of b pt (Step.Deliver a c k) ≡ Some (behind (Line.Head (Step.Deliver a c k) ∷ []) z)
  due_by ps z e f = grind (arith, nat_tests)

  same_of : (ps : List Part) (z : Spelled) → group.arrives a c (pt.view.pair a c) (pt.view.pair c a) (slice_get (pt.view.pair a c).wire k) ≡ ps → spelled (begun pt a c k) ps ≡ Some z → Same pt z.point
  same_of ps z e f =
      let net = subst IsNet e (arrives_net a c (pt.view.pair a c) (pt.view.pair c a) (slice_get (pt.view.pair a c).wire k)) in
      let k = net_same ps (begun pt a c k) z net f in
      record { kernel = k.kernel; count = k.count }

  goes_by : (carried : Load Message) (ps : List Part) → world_step b w (Step.Deliver a c k) ≡ arrives (record w { wires = after_mark w.wires a c k }) (Step.Deliver a c k) a c carried
      → group.arrives a c (pt.view.pair a c) (pt.view.pair c a) (slice_get (pt.view.pair a c).wire k) ≡ ps → Does carried ps → GoesOn b w pt (Step.Deliver a c k)
  goes_by carried ps happens parts f = record {
    said = acted (record w { wires = after_mark w.wires a c k }) (Step.Deliver a c k) c (node.arrives (w.nodes c) a carried);
    happens = happens;
    group = behind (Line.Head (Step.Deliver a c k) ∷ []) f.end;
    due = due_by ps f.end parts f.spells;
    lines = λ i. Line.Head (Step.Deliver a c k) ∷ f.lines i;
    stands = ((l, f.history, f.stands), counts_on w (acted (record w { wires = after_mark w.wires a c k }) (Step.Deliver a c k) c (node.arrives (w.nodes c) a carried)).state pt f.end.point c (node.arrives (w.nodes c) a carried).state refl (arrives_sent (w.nodes c) a carried) (same_of ps f.end parts f.spells) counted);
  }

  -- what is read of the packet arrives
  read_is : (p : stream.Packet Message) (carried : Load Message) (x : Packet) → slice_get (h.packets a c) k ≡ Some p → p.load ≡ carried → packet_of (spelling (out.packet_of_load a c carried)) ≡ Ok x
      → world_step b w (Step.Deliver a c k) ≡ reads (record w { wires = after_mark w.wires a c k }) (Step.Deliver a c k) a c (Ok x)
  read_is p carried x is loads read =
      let put : bytes_at (w.wires a c) k ≡ Some (spelling (out.packet_of_load a c carried)) =
      bytes_are b pt l w h a c k there ∙ ap (option_map (bytes_for a c)) is ∙ ap (λ (z : Load Message). Some (spelling (out.packet_of_load a c z))) loads in
      ap (delivers w (Step.Deliver a c k) a c k) put ∙ ap (reads (record w { wires = after_mark w.wires a c k }) (Step.Deliver a c k) a c) read

  said_is : (p : stream.Packet Message) → slice_get (h.packets a c) k ≡ Some p → slice_get (pt.view.pair a c).wire k ≡ Some (line_of p)
  said_is p is = lines_are b pt l w h a c k there ∙ ap (option_map line_of) is

  -- each count that was ever acknowledged is small
  small_ack : (n : ℕ) → load_at (h.packets a c) k ≡ Some (Ack n) → n < 2 ^ 32
  small_ack n e = grind (arith, nat_tests, MayCome-stands)

  -- the packet, by what it carries
  goes_with : (p : stream.Packet Message) (carried : Load Message) → a < 16 → c < 16 → slice_get (h.packets a c) k ≡ Some p → p.load ≡ carried → ReadsAs w h a c k → GoesOn b w pt (Step.Deliver a c k)
  goes_with p (Data n m) low_a low_c is loads readable =
      let e : load_at (h.packets a c) k ≡ Some (Data n m) = load_is (h.packets a c) k (Some p) is ∙ ap Some loads in
      let x : IsReadAs w a c n m = readable n m e in
      goes_by (Data n x.message) (group.comes a c (pt.view.pair a c) (pt.view.pair c a) (load.Data n)) (read_is p (Data n m) (Packet.Data a c n x.message) is loads x.read) (ap (group.arrives a c (pt.view.pair a c) (pt.view.pair c a)) (said_is p is) ∙ ap (λ (z : Load Message). group.comes a c (pt.view.pair a c) (pt.view.pair c a) (load_of z)) loads) (data_comes n m x.message e x.same)
  goes_with p (Ack n) low_a low_c is loads readable =
      let e : load_at (h.packets a c) k ≡ Some (Ack n) = load_is (h.packets a c) k (Some p) is ∙ ap Some loads in
      goes_by (Ack n) (Part.Says (Line.Acked a c n) ∷ group.repeats c a (group.let_go (pt.view.pair c a) (at_least (pt.view.pair c a).acked n))) (read_is p (Ack n) (Packet.Ack a c n) is loads (reads_ack a c n low_a low_c apart (small_ack n e))) (ap (group.arrives a c (pt.view.pair a c) (pt.view.pair c a)) (said_is p is) ∙ ap (λ (z : Load Message). group.comes a c (pt.view.pair a c) (pt.view.pair c a) (load_of z)) loads) (acked_comes b w pt l h a c k s a_in c_in apart n e)

  -- there is no such packet
  goes_none : slice_get (h.packets a c) k ≡ None → GoesOn b w pt (Step.Deliver a c k)
  goes_none is =
      let none : slice_get (pt.view.pair a c).wire k ≡ None = lines_are b pt l w h a c k there ∙ ap (option_map line_of) is in
      let z : Spelled = record { lines = Line.Nothing ∷ []; point = moved (begun pt a c k) Line.Nothing pt.kernel } in
      record {
        said = record { state = record w { groups = w.groups + 1 }; lines = Line.Head (Step.Deliver a c k) ∷ Line.Nothing ∷ [] };
        happens = ap (delivers w (Step.Deliver a c k) a c k) (bytes_are b pt l w h a c k there ∙ ap (option_map (bytes_for a c)) is);
        group = behind (Line.Head (Step.Deliver a c k) ∷ []) z;
        due = due_by (Part.Says Line.Nothing ∷ []) z (ap (group.arrives a c (pt.view.pair a c) (pt.view.pair c a)) none) refl;
        lines = refl;
        stands = ((l, h, nothing_stands b w pt l h a c s a_in c_in apart k none), counted);
      }

  pub goes_of : (o : Option (stream.Packet Message)) → slice_get (h.packets a c) k ≡ o → a < 16 → c < 16 → ReadsAs w h a c k → GoesOn b w pt (Step.Deliver a c k)
  goes_of None is low_a low_c readable = goes_none is
  goes_of (Some p) is low_a low_c readable = goes_with p p.load low_a low_c is refl readable

-- what waits on a machine's streams to itself, and to machines that there aren't, could be put into packets: nothing does
abbrev pub OthersLawful : WorldState → Point → ℕ → Type 0
OthersLawful w pt m = (y : ℕ) → y < 16 → (y ≡ m) ⊎ (pt.kernel.machines ≤ y) → All IsLawfulMessage ((w.nodes m).senders y).unacked

-- a machine may act
pub may_act : (b : Boot) (w : WorldState) (pt : Point) (l : Placed) (h : History) (m : ℕ) → IsValid b → StandsWith b w pt l h → m < pt.kernel.machines → pt.kernel.machines ≡ length b.machines → OthersLawful w pt m → MayAct (w.nodes m)
may_act b w pt l h m valid s m_in machines_are others =
    let n = s.nodes m m_in in
    let most : b.numbers ≤ 1048576 = (let t : nat_le b.numbers 1048576 ≡ true = valid.most_numbers in grind (arith, nat_tests)) in
    let least : length b.machines ≤ 16 = (let t : nat_le (length b.machines) 16 ≡ true = valid.few_machines in grind (arith, nat_tests)) in
    record {
      here = omega (arith, n.kernel.here, m_in, machines_are, least);
      machines = omega (arith, n.machines, machines_are, least);
      numbers = omega (arith, n.numbers, most);
      home = omega (arith, n.home, n.numbers, s.counts m m);
      unacked = λ y small. elim (eqb_tells y m) [
        | inl same ↦ others y small (inl same.1)
        | inr other ↦ elim (cases_Bool (nat_lt y pt.kernel.machines)) [
          | inl within ↦
              let off : m ≢ y = (let t : (y == m) ≡ false = other.0 in grind (arith, nat_tests)) in
              let lt : y < pt.kernel.machines = grind (arith, nat_tests) in
              let k = s.pairs m y m_in lt off in
              subst (All IsLawfulMessage) (sym k.stream.in_order.unacked) (All-drop IsLawfulMessage ((w.nodes m).senders y).acked (h.given m y) k.lawful)
          | inr beyond ↦ others y small (inr (grind (arith, nat_tests)))
        ]
      ];
    }

module _ (b : Boot) (w : WorldState) (pt : Point) (l : Placed) (h : History) (a c k : ℕ) (s : StandsWith b w pt l h) (counted : CountsStand w pt) (a_in : a < pt.kernel.machines) (c_in : c < pt.kernel.machines) (apart : a ≢ c) where
  may_read : (p : stream.Packet Message) (carried : Load Message) (x : Packet) → slice_get (h.packets a c) k ≡ Some p → p.load ≡ carried → packet_of (spelling (out.packet_of_load a c carried)) ≡ Ok x → MayRead w a c (Ok x) → MayDeliver w a c (bytes_at (w.wires a c) k)
  may_read p carried x is loads read may =
      let put : bytes_at (w.wires a c) k ≡ Some (spelling (out.packet_of_load a c carried)) =
      bytes_are b pt l w h a c k (s.pairs a c a_in c_in apart) ∙ ap (option_map (bytes_for a c)) is ∙ ap (λ (z : Load Message). Some (spelling (out.packet_of_load a c z))) loads in
      subst (MayDeliver w a c) (sym put) (subst (MayRead w a c) (sym read) may)

  may_with : (p : stream.Packet Message) (carried : Load Message) → a < 16 → c < 16 → slice_get (h.packets a c) k ≡ Some p → p.load ≡ carried → MayAct (w.nodes c) → ReadsAs w h a c k → MayDeliver w a c (bytes_at (w.wires a c) k)
  may_with p (Data n m) low_a low_c is loads acts readable =
      let e : load_at (h.packets a c) k ≡ Some (Data n m) = load_is (h.packets a c) k (Some p) is ∙ ap Some loads in
      let x : IsReadAs w a c n m = readable n m e in
      let come = MayCome-stands (stream_of w h a c) (s.pairs a c a_in c_in apart).stream in
      may_read p (Data n m) (Packet.Data a c n x.message) is loads x.read (
        refl,
        (
          record { acts = acts; from = (low_a, λ same. apart (same ∙ (s.nodes c c_in).kernel.here)); fits = (come.in_window k n m e, come.numbered k n m e) },
          sym (s.nodes c c_in).kernel.here,
        ),
      )
  may_with p (Ack n) low_a low_c is loads acts readable =
      let e : load_at (h.packets a c) k ≡ Some (Ack n) = load_is (h.packets a c) k (Some p) is ∙ ap Some loads in
      let come = MayCome-stands (stream_of w h c a) (s.pairs c a c_in a_in (λ e. apart (sym e))).stream in
      may_read p (Ack n) (Packet.Ack a c n) is loads (reads_ack a c n low_a low_c apart (small_ack b w pt l h a c k s counted a_in c_in apart n e)) (
        refl,
        (
          record { acts = acts; from = (low_a, λ same. apart (same ∙ (s.nodes c c_in).kernel.here)); fits = come.ack k n e },
          sym (s.nodes c c_in).kernel.here,
        ),
      )

  may_of : (o : Option (stream.Packet Message)) → slice_get (h.packets a c) k ≡ o → a < 16 → c < 16 → MayAct (w.nodes c) → ReadsAs w h a c k → MayDeliver w a c (bytes_at (w.wires a c) k)
  may_of None is low_a low_c acts readable = subst (MayDeliver w a c) (sym (bytes_are b pt l w h a c k (s.pairs a c a_in c_in apart) ∙ ap (option_map (bytes_for a c)) is)) tt
  may_of (Some p) is low_a low_c acts readable = may_with p p.load low_a low_c is refl acts readable

-- machine c may take the packet
pub may_deliver : (b : Boot) (w : WorldState) (pt : Point) (l : Placed) (h : History) (a c k : ℕ) → IsValid b → Run b pt → StandsWith b w pt l h → CountsStand w pt → a < pt.kernel.machines → c < pt.kernel.machines → a ≢ c
    → pt.kernel.machines ≡ length b.machines → OthersLawful w pt c → ReadsAs w h a c k → MayDeliver w a c (bytes_at (w.wires a c) k)
may_deliver b w pt l h a c k valid run s counted a_in c_in apart machines_are others readable =
    may_of b w pt l h a c k s counted a_in c_in apart (slice_get (h.packets a c) k) refl (few b a pt.kernel.machines valid machines_are a_in) (few b c pt.kernel.machines valid machines_are c_in)
    (may_act b w pt l h c valid s c_in machines_are others) readable
