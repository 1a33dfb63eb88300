-- The delivery of a packet: the machines do what the rule says.
use Rattle.dm_law_mirror.proofs.Names.{Early, Old, after_line, arrival, PairStands, stream_of, ◌≡◌, ◌≢◌, ℕ, ◌+◌, ◌-◌, ◌<◌, ◌≤◌, List, [], ◌∷◌, length, refl, ap, ◌∙◌, sym, subst, arith, Some, Message, Sending, with_acked, Receiving}
use Rattle.dm_law_mirror.proofs.Names.{after_arrival, Arrived, Data, Ack, load_at, after_mark, Boot, nat_tests, Line, at_pair, Pair, oldest, at_least, Point, moved, has, kept_from, less, numbers_from, repeats, taken_pair, Placed, NodeState}
use Rattle.dm_law_mirror.proofs.Names.{here, with_message, with_receiver, with_sender, acknowledges, before, lets_go, takes_kept, then_acknowledges, WorldState, History, StandsWith, less-right, ◌^◌, slice_get, option_map, Option, slice_get-map}
use Rattle.dm_law_mirror.proofs.Names.{Packet, packet_of, spelling, packet_again, bytes_at, line_of, nat_le, nat_lt, true, drop, Result, PacketError, ◌>>=◌, IsRoute, only_packet, message, read_rest, spell_message, IsField-number, guard_ok}
use Rattle.dm_law_mirror.proofs.Names.{outstanding, MayCome-stands, get-drop, IsValid, IsReadable, zero, suc, eqb_tells, bind-is, MsgId, next, due, bind, Spelled, packet_line, spelled, after, at_machine, View, view_after, IsNet, IsNetLine}
use Rattle.dm_law_mirror.proofs.Names.{comes_in, lets_next, takes_next, Acted, OneKernel, CountsStand, behind, Ok}
use Rattle.dm_law_rule.proofs.Names.{Part}
use Rattle.dm_stream.specs.Packets.{Load}
use Rattle.dm_node.specs.declared.out.Out.TheVariants.{Says}
use Rattle.dm_node.specs.Acts.{arrives}
use Rattle.dm_line.specs.declared.line.Load.TheVariants as load
use Rattle.dm_law_rule.specs.View as view
use Rattle.dm_law_rule.specs.Rule as group
use Rattle.dm_node.specs.Acts as node
use Rattle.dm_stream.specs.Packets as stream
use Rattle.dm_node.specs.Out as out
use Rattle.dm_law_mirror.proofs.Streams.{at_here, pair_here, pair_other}
use Rattle.dm_law_mirror.proofs.Deliver.Moves.{back_other, acknowledged, kept_after, taken_parts, takes_follow, lets_follow, room_of}
use Rattle.dm_law_mirror.proofs.Deliver.Events.{after_early_is, after_old_is, after_taken_is, arrival_early, arrival_old, arrival_taken, off, less_test}
use Rattle.dm_law_mirror.proofs.Deliver.Stands.{Follows, says_on}
use Rattle.dm_law_mirror.proofs.Deliver.Outs.{acked_stands, begun, come_to, early_stands, marked_in, old_stands, taken_stands}

-- the world of a delivery before the machine acts
abbrev marked_world : WorldState → ℕ → ℕ → ℕ → WorldState
marked_world w a c k = record { nodes = w.nodes; wires = after_mark w.wires a c k; ended = w.ended; groups = w.groups + 1 }

module _ (b : Boot) (w : WorldState) (pt : Point) (l : Placed) (h : History) (a c k : ℕ) (s : StandsWith b w pt l h) (a_in : a < pt.kernel.machines) (c_in : c < pt.kernel.machines) (apart : a ≢ c) where
  there : PairStands b pt l w h a c
  there = s.pairs a c a_in c_in apart

  -- what comes makes the machine do what the rule's parts say
  abbrev pub Comes : Load Message → List Part → Type 0
  Comes carried ps = Follows b c (marked_world w a c k) (begun pt a c k) l (node.arrives (w.nodes c) a carried) ps

  -- it is said to be old or early, and what was taken is acknowledged
  again_comes : (n : ℕ) (x : Message) (said : ℕ → Line) (o : Arrived Message) → arrival ((w.nodes c).receivers a) n x ≡ o → ((z : NodeState) → node.comes z a n o ≡ before (Says (said (here z)) ∷ []) (record { state = z; outs = acknowledges z a }))
      → (after_arrival ((w.nodes c).receivers a) n x).count ≡ ((w.nodes c).receivers a).count → after_line (begun pt a c k) (said c) ≡ Some (moved (begun pt a c k) (said c) pt.kernel)
      → StandsWith b (come_to w a c k (with_receiver (w.nodes c) a (after_arrival ((w.nodes c).receivers a) n x))) (moved (begun pt a c k) (said c) pt.kernel) l (marked_in h a c k)
      → Comes (Data n x) (Part.Says (said c) ∷ Part.Transmits c a (load.Ack (pt.view.pair a c).taken) ∷ [])
  again_comes n x said o is comes count goes stands =
      let next : NodeState = with_receiver (w.nodes c) a (after_arrival ((w.nodes c).receivers a) n x) in
      let v : WorldState = come_to w a c k next in
      let q : Point = moved (begun pt a c k) (said c) pt.kernel in
      let ps : List Part = Part.Transmits c a (load.Ack (pt.view.pair a c).taken) ∷ [] in
      let set : v.nodes c ≡ next = at_here w.nodes c next in
      let counted : (pt.view.pair a c).taken ≡ ((v.nodes c).receivers a).count =
      sym there.taken ∙ sym (ap (λ (z : NodeState). (z.receivers a).count) set ∙ ap (λ (z : Receiving Message). z.count) (at_here (w.nodes c).receivers a (after_arrival ((w.nodes c).receivers a) n x)) ∙ count) in
      let last = acknowledged b l a c apart v q (marked_in h a c k) stands a_in c_in (pt.view.pair a c).taken counted in
      let whole = says_on b c (marked_world w a c k) (begun pt a c k) q l next (said (here (w.nodes c))) (said c) (record { state = next; outs = acknowledges next a }) ps (ap said (s.nodes c c_in).kernel.here) goes
      (subst (λ (z : NodeState). Follows b c v q l (record { state = z; outs = acknowledges z a }) ps) set last) in
      subst (λ (z : Acted). Follows b c (marked_world w a c k) (begun pt a c k) l z (Part.Says (said c) ∷ ps)) (sym (ap (node.comes next a n) is ∙ comes next)) whole

  -- what was taken before
  pub old_comes : (n : ℕ) (m x : Message) → load_at (h.packets a c) k ≡ Some (Data n m) → n < ((w.nodes c).receivers a).count → Comes (Data n x) (Part.Says (Line.Old a c n) ∷ Part.Transmits c a (load.Ack (pt.view.pair a c).taken) ∷ [])
  old_comes n m x e lt =
      again_comes n x (λ i. Line.Old a i n) Old (arrival_old ((w.nodes c).receivers a) n x lt) (λ z. refl) (ap (λ (z : Receiving Message). z.count) (after_old_is ((w.nodes c).receivers a) n x lt)) refl (old_stands b w pt l h a c s a_in c_in apart k n m e x lt)

  -- what comes early
  pub early_comes : (n : ℕ) (m : Message) → load_at (h.packets a c) k ≡ Some (Data n m) → ((w.nodes c).receivers a).count < n → Comes (Data n m) (Part.Says (Line.Early a c n) ∷ Part.Transmits c a (load.Ack (pt.view.pair a c).taken) ∷ [])
  early_comes n m e gt =
      again_comes n m (λ i. Line.Early a i n) Early (arrival_early ((w.nodes c).receivers a) n m gt) (λ z. refl) (ap (λ (z : Receiving Message). z.count) (after_early_is ((w.nodes c).receivers a) n m gt)) refl (early_stands b w pt l h a c s a_in c_in apart k n m e gt)

  -- what is next, and so many of those that are kept behind it
  taken_follows : (fuel n : ℕ) (m : Message) → load_at (h.packets a c) k ≡ Some (Data n m) → n ≡ ((w.nodes c).receivers a).count
      → Follows b c (marked_world w a c k) (begun pt a c k) l
      (then_acknowledges (before (Says (Line.Taken a (here (w.nodes c)) n) ∷ []) (takes_kept fuel (with_message (with_receiver (w.nodes c) a (after_arrival ((w.nodes c).receivers a) n m)) m) a)) a)
      (Part.Says (Line.Taken a c n) ∷ taken_parts b l a c apart (pt.view.pair a c).kept (n + 1) fuel)
  taken_follows fuel n m e is =
      let r : Receiving Message = (w.nodes c).receivers a in
      let next : NodeState = with_message (with_receiver (w.nodes c) a (after_arrival r n m)) m in
      let v : WorldState = come_to w a c k next in
      let q : Point = moved (begun pt a c k) (Line.Taken a c n) pt.kernel in
      let ks : List ℕ = (pt.view.pair a c).kept in
      let set : v.nodes c ≡ next = at_here w.nodes c next in
      let count : n + 1 ≡ ((v.nodes c).receivers a).count =
      ap (λ (i : ℕ). i + 1) is ∙ sym (ap (λ (z : NodeState). (z.receivers a).count) set ∙ ap (λ (z : Receiving Message). z.count) (at_here (w.nodes c).receivers a (after_arrival r n m) ∙ after_taken_is r n m is)) in
      let mark : Pair = view.marked (pt.view.pair a c) k in
      let first : ℕ → ℕ → Pair = at_pair pt.view.pair a c mark in
      let p : Pair = record (first a c) { taken = (first a c).taken + 1; kept = off n (first a c).kept } in
      let now : q.view.pair a c ≡ p = ap (λ (f : ℕ → ℕ → Pair). f a c) (taken_pair (view.with_pair (begun pt a c k).view a c p) c (oldest (first a c))) ∙ pair_here first a c p in
      let before_it : (i : ℕ) → n ≤ i → has i ks ≡ has i (first a c).kept = λ i le. ap (λ (z : Pair). has i z.kept) (sym (pair_here pt.view.pair a c mark)) in
      let later : (i : ℕ) → n + 1 ≤ i → has i ks ≡ has i (q.view.pair a c).kept = λ i le. kept_after b l a c apart first n ks before_it i le ∙ ap (λ (z : Pair). has i z.kept) (sym now) in
      let rest = takes_follow b l a c apart fuel v q (marked_in h a c k) (taken_stands b w pt l h a c s a_in c_in apart k n m e is) a_in c_in ks (n + 1) count later in
      let rest_here = subst (λ (z : NodeState). Follows b c v q l (then_acknowledges (takes_kept fuel z a) a) (taken_parts b l a c apart ks (n + 1) fuel)) set rest in
      says_on b c (marked_world w a c k) (begun pt a c k) q l next (Line.Taken a (here (w.nodes c)) n) (Line.Taken a c n) (then_acknowledges (takes_kept fuel next a) a) (taken_parts b l a c apart ks (n + 1) fuel) (ap (λ (i : ℕ). Line.Taken a i n) (s.nodes c c_in).kernel.here) refl rest_here

  pub taken_comes : (n : ℕ) (m : Message) → load_at (h.packets a c) k ≡ Some (Data n m) → n ≡ ((w.nodes c).receivers a).count → Comes (Data n m) (group.takes_on a c n (kept_from (pt.view.pair a c).kept (n + 1) 8))
  taken_comes n m e is =
      let next : NodeState = with_receiver (w.nodes c) a (after_arrival ((w.nodes c).receivers a) n m) in
      subst (λ (z : Arrived Message). Follows b c (marked_world w a c k) (begun pt a c k) l (node.comes next a n z) (Part.Says (Line.Taken a c n) ∷ taken_parts b l a c apart (pt.view.pair a c).kept (n + 1) 8)) (sym (arrival_taken ((w.nodes c).receivers a) n m is)) (taken_follows 8 n m e is)

  -- an acknowledgement
  pub acked_comes : (n : ℕ) → load_at (h.packets a c) k ≡ Some (Ack n) → Comes (Ack n) (Part.Says (Line.Acked a c n) ∷ repeats c a (group.let_go (pt.view.pair c a) (at_least (pt.view.pair c a).acked n)))
  acked_comes n e =
      let next : NodeState = with_sender (w.nodes c) a (with_acked ((w.nodes c).senders a) n) in
      let v : WorldState = come_to w a c k next in
      let q : Point = moved (begun pt a c k) (Line.Acked a c n) pt.kernel in
      let g : History = marked_in h a c k in
      let stands : StandsWith b v q l g = acked_stands b w pt l h a c s a_in c_in apart k n e in
      let mark : Pair = view.marked (pt.view.pair a c) k in
      let first : ℕ → ℕ → Pair = at_pair pt.view.pair a c mark in
      let p : Pair = record (first c a) { acked = at_least (first c a).acked n } in
      let now : q.view.pair c a ≡ record (pt.view.pair c a) { acked = at_least (pt.view.pair c a).acked n } =
      pair_here first c a p ∙ ap (λ (z : Pair). record z { acked = at_least z.acked n }) (pair_other pt.view.pair a c mark c a (back_other a c apart)) in
      let old : Pair = pt.view.pair c a in
      let j : ℕ = less (length old.ids - old.gone) (at_least old.acked n + 8 - old.gone) in
      let room : j ≡ room_of (q.view.pair c a) = sym (ap room_of now) in
      let small : j ≤ 8 = subst (λ (i : ℕ). i ≤ 8) (sym room) (grind (arith, nat_tests, less-right, stands.pairs c a c_in a_in (λ e. apart (sym e)))) in
      let rest = lets_follow b l a c apart 8 v q g stands a_in c_in j room small in
      let rest_from = subst (λ (i : ℕ). Follows b c v q l (lets_go 8 (v.nodes c) a) (repeats c a (numbers_from i j))) (ap (λ (z : Pair). z.gone) now) rest in
      let rest_here = subst (λ (z : NodeState). Follows b c v q l (lets_go 8 z a) (repeats c a (numbers_from old.gone j))) (at_here w.nodes c next) rest_from in
      says_on b c (marked_world w a c k) (begun pt a c k) q l next (Line.Acked a (here (w.nodes c)) n) (Line.Acked a c n) (lets_go 8 next a) (repeats c a (numbers_from old.gone j)) (ap (λ (i : ℕ). Line.Acked a i n) (s.nodes c c_in).kernel.here) refl rest_here

-- The packet of a delivery is read as it was put, and its machine may take it.

-- the bytes of the packet with this number
abbrev pub bytes_for : ℕ → ℕ → stream.Packet Message → List ℕ
bytes_for a c p = spelling (out.packet_of_load a c p.load)

-- what is read of the packet of a delivery that carries a message: its number, and where it wasn't taken yet, the message
pub record IsReadAs (w : WorldState) (a c n : ℕ) (m : Message) : Type 0 where
  pub message : Message
  pub read : packet_of (spelling (Packet.Data a c n m)) ≡ Ok (Packet.Data a c n message)
  pub same : ((w.nodes c).receivers a).count ≤ n → message ≡ m

abbrev pub ReadsAs : WorldState → History → ℕ → ℕ → ℕ → Type 0
ReadsAs w h a c k = (n : ℕ) (m : Message) → load_at (h.packets a c) k ≡ Some (Data n m) → IsReadAs w a c n m

pub bytes_are : (b : Boot) (pt : Point) (l : Placed) (w : WorldState) (h : History) (a c k : ℕ) → PairStands b pt l w h a c → bytes_at (w.wires a c) k ≡ option_map (bytes_for a c) (slice_get (h.packets a c) k)
bytes_are b pt l w h a c k s = grind (arith, nat_tests, option_map, slice_get-map, slice_get)

pub lines_are : (b : Boot) (pt : Point) (l : Placed) (w : WorldState) (h : History) (a c k : ℕ) → PairStands b pt l w h a c → slice_get (pt.view.pair a c).wire k ≡ option_map line_of (slice_get (h.packets a c) k)
lines_are b pt l w h a c k s = ap (λ (ss : List view.SentLoad). slice_get ss k) (sym s.packets) ∙ slice_get-map line_of (h.packets a c) k

abbrev load_in : Option (stream.Packet Message) → Option (Load Message)
load_in o = option_map (λ p. p.load) o

pub load_is : (ps : List (stream.Packet Message)) (k : ℕ) (o : Option (stream.Packet Message)) → slice_get ps k ≡ o → load_at ps k ≡ load_in o
unfolding load_at
load_is ps k o e = ap load_in e

-- an acknowledgement is read as it was put
pub reads_ack : (a c n : ℕ) → a < 16 → c < 16 → a ≢ c → n < 2 ^ 32 → packet_of (spelling (Packet.Ack a c n)) ≡ Ok (Packet.Ack a c n)
reads_ack a c n a_in c_in apart small = packet_again (Packet.Ack a c n) (record { from = omega arith; to = omega arith; apart = λ e. apart (sym e) }) (omega arith)

-- Where each packet of a wire can be read, and what is out and not acknowledged is read as it was put, a delivery reads what
-- was put; of a message that was acknowledged long ago, its number.

-- ---- the opening of a packet is read as it was spelled

-- ---- a packet with a message is read as a packet with the same number

abbrev numbered_of : ℕ → Message × List ℕ → Result ((ℕ × Message) × List ℕ) PacketError
numbered_of n y = Ok ((n, y.0), y.1)

abbrev data_of : ℕ → ℕ → (ℕ × Message) × List ℕ → Result (Packet × List ℕ) PacketError
data_of a c x = Ok (Packet.Data a c x.0.0 x.0.1, x.1)

abbrev with_number : ℕ → ℕ → ℕ → Result (Message × List ℕ) PacketError → Result Packet PacketError
with_number a c n r = ((r >>= numbered_of n) >>= data_of a c) >>= only_packet

read_on : (a c n : ℕ) (m : Message) → IsRoute a c → n < 256 ^ 4 → packet_of (spelling (Packet.Data a c n m)) ≡ with_number a c n (message.read (spell_message m))
unfolding packet_of read_rest spelling
read_on a c n m route small = grind (arith, nat_tests, IsField-number)

numbered : (a c n : ℕ) (r : Result (Message × List ℕ) PacketError) (p : Packet) → with_number a c n r ≡ Ok p → (x : Message) × (p ≡ Packet.Data a c n x)
numbered a c n r p e = grind (arith, nat_tests, guard_ok)

-- ---- what a delivery reads

pub few : (b : Boot) (m n : ℕ) → IsValid b → n ≡ length b.machines → m < n → m < 16
few b m n valid are lt = let most : nat_le (length b.machines) 16 ≡ true = valid.few_machines in grind (arith, nat_tests)

-- a number between those acknowledged and those that have gone out is outstanding
outstanding_is : (s : Sending Message) (given : List Message) (n : ℕ) (m : Message) → s.unacked ≡ drop s.acked given → s.acked ≤ n → n < s.gone → slice_get given n ≡ Some m → outstanding s (n - s.acked) ≡ Some (n, m)
outstanding_is s given n m e above below is = grind (arith, nat_tests, slice_get, get-drop, nat_lt, less_test)

pub reads_as : (b : Boot) (w : WorldState) (pt : Point) (l : Placed) (h : History) (a c k : ℕ) → IsValid b → StandsWith b w pt l h → a < pt.kernel.machines → c < pt.kernel.machines → a ≢ c → pt.kernel.machines ≡ length b.machines → IsReadable w → ReadsAs w h a c k
reads_as b w pt l h a c k valid s a_in c_in apart machines_are readable n m e =
    let there : PairStands b pt l w h a c = s.pairs a c a_in c_in apart in
    let low_a : a < 16 = few b a pt.kernel.machines valid machines_are a_in in
    let low_c : c < 16 = few b c pt.kernel.machines valid machines_are c_in in
    let near : n < 2 ^ 32 - 1 = (MayCome-stands (stream_of w h a c) there.stream).numbered k n m e in
    let route : IsRoute a c = record { from = omega arith; to = omega arith; apart = λ same. apart (sym same) } in
    let loads : load_in (slice_get (h.packets a c) k) ≡ Some (Data n m) = sym (load_is (h.packets a c) k (slice_get (h.packets a c) k) refl) ∙ e in
    let put_is : option_map (bytes_for a c) (slice_get (h.packets a c) k) ≡ Some (spelling (out.packet_of_load a c (Data n m))) = grind (arith, nat_tests) in
    let (p, read) = readable.reads a c k (spelling (Packet.Data a c n m)) (bytes_are b pt l w h a c k there ∙ put_is) in
    let (x, is) = numbered a c n (message.read (spell_message m)) p (sym (read_on a c n m route (omega arith)) ∙ read) in
    let given : slice_get (h.given a c) n ≡ Some m = there.stream.sent.data_given k n m e in
    record {
      message = x;
      read = read ∙ ap Ok is;
      same = λ le.
          let sender = (w.nodes a).senders c in
          let above : sender.acked ≤ n = omega (arith, le, there.stream.in_order.acked_taken) in
          let is_out : outstanding sender (n - sender.acked) ≡ Some (n, m) = outstanding_is sender (h.given a c) n m there.stream.in_order.unacked above (there.stream.sent.data_gone k n m e) given in
          let put_back : packet_of (spelling (Packet.Data a c n m)) ≡ Ok (Packet.Data a c n m) = subst (λ (i : ℕ). packet_of (spelling (Packet.Data i c n m)) ≡ Ok (Packet.Data i c n m)) (s.nodes a a_in).kernel.here ((readable.out a c).out (n - sender.acked) n m is_out) in
          let g : Ok (Packet.Data a c n x) ≡ Ok (Packet.Data a c n m) = sym (read ∙ ap Ok is) ∙ put_back in cc;
    }

-- A delivery counts none of the kernels' own messages, by the lines and by the machine.

-- the lines
taken_count : (v : View) (b : ℕ) (o : Option MsgId) → (view.taken_id v b o).count ≡ v.count
taken_count v b o = grind (arith, nat_tests)

line_count : (v : View) (l : Line) → IsNetLine l → (view_after v l).count ≡ v.count
line_count v l is = grind (arith, nat_tests, taken_count)

-- none of them is a step
line_goes : (pt : Point) (l : Line) → IsNetLine l → after pt (l ∷ []) ≡ Some (moved pt l pt.kernel)
line_goes pt l is = grind (arith, nat_tests)

-- the kernel and the counts stay
pub record Same (pt end : Point) : Type 0 where
  pub kernel : end.kernel ≡ pt.kernel
  pub count : end.view.count ≡ pt.view.count

same_on : (pt mid end : Point) → Same pt mid → Same mid end → Same pt end
same_on pt mid end f g = record { kernel = g.kernel ∙ f.kernel; count = g.count ∙ f.count }

says_same : (pt next : Point) (l : Line) → IsNetLine l → after pt (l ∷ []) ≡ Some next → Same pt next
says_same pt next l is e =
    let line_goes : after pt (l ∷ []) ≡ Some (moved pt l pt.kernel) = grind (arith, nat_tests) in
    let f : Some (moved pt l pt.kernel) ≡ Some next = sym line_goes ∙ e in
    let g : moved pt l pt.kernel ≡ next = cc in
    let line_count : (view_after pt.view l).count ≡ pt.view.count = grind (arith, nat_tests) in
    subst (Same pt) g (record { kernel = refl; count = line_count })

pub net_same : (ps : List Part) (pt : Point) (w : Spelled) → IsNet ps → spelled pt ps ≡ Some w → Same pt w.point
net_same [] pt w h e = let f : record { lines = []; point = pt } ≡ w = cc in subst (λ (x : Spelled). Same pt x.point) f (record { kernel = refl; count = refl })
net_same (Part.Says l ∷ ps) pt w h e =
    let (next, comes, last) = bind-is (after pt (l ∷ [])) (λ next. bind (spelled next ps) (λ rest. Some (behind (l ∷ []) rest))) w e in
    let (rest, told, end) = bind-is (spelled next ps) (λ rest. Some (behind (l ∷ []) rest)) w last in
    let f : behind (l ∷ []) rest ≡ w = cc in
    subst (λ (x : Spelled). Same pt x.point) f (same_on pt next rest.point (says_same pt next l h.0 comes) (net_same ps next rest h.1 told))
net_same (Part.Transmits a b x ∷ ps) pt w h e =
    let l = packet_line pt.view a b x in
    let (rest, told, end) = bind-is (spelled (moved pt l pt.kernel) ps) (λ rest. Some (behind (l ∷ []) rest)) w e in
    let f : behind (l ∷ []) rest ≡ w = cc in
    subst (λ (x : Spelled). Same pt x.point) f (same_on pt (moved pt l pt.kernel) rest.point (record { kernel = refl; count = refl }) (net_same ps (moved pt l pt.kernel) rest h.1 told))
net_same _ pt w h e = absurd h.0

-- the machine
takes_next_sent : (n : NodeState) (a : ℕ) (o : Option Message) (go : NodeState → Acted) → ((m : NodeState) → (go m).state.kernel.sent ≡ m.kernel.sent) → (takes_next n a o go).state.kernel.sent ≡ n.kernel.sent
takes_next_sent n a o go same = grind (arith, nat_tests)

takes_kept_sent : (k : ℕ) (n : NodeState) (a : ℕ) → (takes_kept k n a).state.kernel.sent ≡ n.kernel.sent
unfolding takes_kept
takes_kept_sent zero n a = refl
takes_kept_sent (suc k) n a = takes_next_sent n a (next (n.receivers a)) (λ m. takes_kept k m a) (λ m. takes_kept_sent k m a)

lets_next_sent : (n : NodeState) (b : ℕ) (o : Option (ℕ × Message)) (go : NodeState → Acted) → ((m : NodeState) → (go m).state.kernel.sent ≡ m.kernel.sent) → (lets_next n b o go).state.kernel.sent ≡ n.kernel.sent
lets_next_sent n b o go same = grind (arith, nat_tests)

lets_go_sent : (k : ℕ) (n : NodeState) (b : ℕ) → (lets_go k n b).state.kernel.sent ≡ n.kernel.sent
unfolding lets_go
lets_go_sent zero n b = refl
lets_go_sent (suc k) n b = lets_next_sent n b (due (n.senders b)) (λ m. lets_go k m b) (λ m. lets_go_sent k m b)

comes_in_sent : (n : NodeState) (a k : ℕ) (x : Arrived Message) → (comes_in n a k x).state.kernel.sent ≡ n.kernel.sent
comes_in_sent n a k x = grind (arith, nat_tests, takes_kept_sent)

pub arrives_sent : (n : NodeState) (a : ℕ) (x : Load Message) → (arrives n a x).state.kernel.sent ≡ n.kernel.sent
arrives_sent n a x = grind (arith, nat_tests, comes_in_sent, lets_go_sent)

-- a machine acts, and has counted as many as the lines then
pub counts_on : (w v : WorldState) (pt end : Point) (c : ℕ) (n : NodeState) → v.nodes ≡ at_machine w.nodes c n → n.kernel.sent ≡ (w.nodes c).kernel.sent → Same pt end → CountsStand w pt → CountsStand v end
counts_on w v pt end c n is sent same h m lt =
    let sent_at : (at_machine w.nodes c n m).kernel.sent ≡ (w.nodes m).kernel.sent = grind (arith, nat_tests, eqb_tells) in
    ap (λ (f : ℕ → NodeState). (f m).kernel.sent) is ∙ sent_at ∙ h m (subst (λ (s : OneKernel). m < s.machines) same.kernel lt) ∙ sym (ap (λ (f : ℕ → ℕ). f m) same.count)
