-- A packet goes on the wire of a pair: the world has it, and so have the lines.
use Rattle.dm_law_mirror.proofs.Names.{◌≡◌, ◌≢◌, ℕ, ◌+◌, ◌≤◌, ◌==◌, ◌&&◌, Bool, false, List, [], ◌∷◌, ◌++◌, length, refl, ap, ◌∙◌, sym, subst, if◌then◌else◌, Some, eqb-true, eq-eqb, length-map, Message, Sending, Stream, spelling, arith}
use Rattle.dm_law_mirror.proofs.Names.{nat_tests, Boot, NodeState, with_packet, Line, at_machine, at_pair, Load, Spot, standing, About, Pair, View, after_packet, begins, pair_keeps, MsgId, Spelled, lines_of}
use Rattle.dm_law_mirror.proofs.Names.{spelled, Point, after, two_of, Placed, WorldState, History, NodeStands, PairStands, StandsWith, load_of, stream_of, packet_of_load, behind}
use Rattle.dm_law_rule.proofs.Names.{Part}
use Rattle.dm_wire.specs.Wire.{after_put}
use Rattle.dm_stream.specs.Packets as stream
use Rattle.dm_wire.specs.Sent as wire
use Rattle.dm_law_mirror.proofs.Streams.{Joined, pair_stands, pair_stays, with_back, with_bytes, with_line, apart_is, at_here, at_other, mirrors_same, node_same, nodes_are, pair_here, pair_other, pairs_are, tokens_same}
use Rattle.dm_law_mirror.proofs.Kernel.Sets.{left_off as both_false}

-- the parts of a group, one after the other
pub spelled_on : (pt next : Point) (p : Part) (ls : List Line) (ps : List Part) (w : Spelled) → lines_of pt p ≡ Some ls → after pt ls ≡ Some next → spelled next ps ≡ Some w → spelled pt (p ∷ ps) ≡ Some (behind ls w)
spelled_on pt next p ls ps w lines comes rest = search

-- the wire with a packet of this load
pub wires_put : (wires : ℕ → ℕ → List wire.Sent) (a c : ℕ) (l : stream.Load Message) (x y : ℕ) → with_packet wires (packet_of_load a c l) x y ≡ after_put wires a c (spelling (packet_of_load a c l)) x y
wires_put wires a c l x y = grind (arith, nat_tests)

wire_other : (wires : ℕ → ℕ → List wire.Sent) (a c : ℕ) (l : stream.Load Message) (x y : ℕ) → ((a == x) && (c == y)) ≡ false → with_packet wires (packet_of_load a c l) x y ≡ wires x y
wire_other wires a c l x y e = wires_put wires a c l x y ∙ ap (λ (t : Bool). if t then wires x y ++ wire.just_put (spelling (packet_of_load a c l)) ∷ [] else wires x y) e

pub wire_length : (b : Boot) (pt : Point) (l : Placed) (w : WorldState) (h : History) (a c : ℕ) → PairStands b pt l w h a c → length (w.wires a c) ≡ length (pt.view.pair a c).wire
wire_length b pt l w h a c s = ap length s.bytes ∙ length-map (h.packets a c) _ ∙ sym (ap length (sym s.packets) ∙ length-map (h.packets a c) _)

-- a pair that is set has the messages that it had
pub ids_if : (f : ℕ → ℕ → Pair) (a c : ℕ) (p : Pair) (x y : ℕ) (t : Bool) → ((a == x) && (c == y)) ≡ t → p.ids ≡ (f a c).ids → (if t then p else f x y).ids ≡ (f x y).ids
ids_if f a c p x y t e same = grind (arith, nat_tests, two_of)

pub ids_same : (f : ℕ → ℕ → Pair) (a c : ℕ) (p : Pair) → p.ids ≡ (f a c).ids → (x y : ℕ) → (at_pair f a c p x y).ids ≡ (f x y).ids
ids_same f a c p same x y = ids_if f a c p x y ((a == x) && (c == y)) refl same

-- of the senders of machine m the one to c may change
pub record Senders (w : WorldState) (m c : ℕ) (nodes : ℕ → NodeState) (s : Sending Message) : Type 0 where
  pub here : (nodes m).senders c ≡ s
  pub others : (a d : ℕ) → ((m == a) && (c == d)) ≡ false → (nodes a).senders d ≡ (w.nodes a).senders d
  pub receivers : (a d : ℕ) → (nodes d).receivers a ≡ (w.nodes d).receivers a

pub same_senders : (w : WorldState) (m c : ℕ) → Senders w m c w.nodes ((w.nodes m).senders c)
same_senders w m c = record { here = refl; others = λ a d e. refl; receivers = λ a d. refl }

pub one_sender : (w : WorldState) (m c : ℕ) (n : NodeState) (s : Sending Message) → n.senders ≡ at_machine (w.nodes m).senders c s → n.receivers ≡ (w.nodes m).receivers → Senders w m c (at_machine w.nodes m n) s
one_sender w m c n s is same = record {
  here = (λ i. (at_here w.nodes m n i).senders c) ∙ (λ i. is i c) ∙ at_here (w.nodes m).senders c s;
  others = λ a d e. grind (arith, nat_tests, at_other, eqb-true);
  receivers = λ a d. grind (arith, nat_tests, eqb-true);
}

-- the packets, the world and the point with one more packet
abbrev pub with_put : History → ℕ → ℕ → stream.Load Message → History
with_put h a c l = record h { packets = at_pair h.packets a c (h.packets a c ++ stream.just_put l ∷ []) }

abbrev pub world_put : WorldState → ℕ → ℕ → (ℕ → NodeState) → stream.Load Message → WorldState
world_put w a c nodes l = record w { nodes = nodes; wires = with_packet w.wires (packet_of_load a c l) }

abbrev pub point_put : Point → ℕ → ℕ → stream.Load Message → Point
point_put pt a c l = record pt { view = after_packet pt.view a c (load_of l) }

abbrev pub stream_put : WorldState → History → ℕ → ℕ → Sending Message → stream.Load Message → Stream Message
stream_put w h a c s l = record (stream_of w h a c) { sender = s; out = h.packets a c ++ stream.just_put l ∷ [] }

pub pairs_put : (b : Boot) (pt : Point) (l : Placed) (w : WorldState) (h : History) (m c : ℕ) (nodes : ℕ → NodeState) (s : Sending Message) (ld : stream.Load Message) → m ≢ c → Senders w m c nodes s
    → Joined b l.bag m c (stream_put w h m c s ld) (with_bytes m c (w.wires m c) ld) (with_line (pt.view.pair m c) (load_of ld))
    → Joined b l.bag c m (with_back (stream_of w h c m) ld) (w.wires c m) (pt.view.pair c m)
    → (a d : ℕ) → PairStands b pt l w h a d → PairStands b (point_put pt m c ld) l (world_put w m c nodes ld) (with_put h m c ld) a d
pairs_put b pt l w h m c nodes s ld apart senders there back =
    let off : ((m == c) && (c == m)) ≡ false = both_false (m == c) (c == m) (apart_is m c apart) in
    pairs_are b pt (point_put pt m c ld) l w (world_put w m c nodes ld) h (with_put h m c ld) m c
    (pair_stands b (point_put pt m c ld) l (world_put w m c nodes ld) (with_put h m c ld) m c (stream_put w h m c s ld) (with_bytes m c (w.wires m c) ld) (with_line (pt.view.pair m c) (load_of ld)) (record {
      sender = senders.here;
      receiver = senders.receivers m c;
      given = refl;
      out = pair_here h.packets m c _;
      back = pair_other h.packets m c _ c m off;
      wire = grind (arith, nat_tests, wires_put, eq-eqb);
      pair = pair_here pt.view.pair m c _;
    }) there)
    (pair_stands b (point_put pt m c ld) l (world_put w m c nodes ld) (with_put h m c ld) c m (with_back (stream_of w h c m) ld) (w.wires c m) (pt.view.pair c m)
    (search (senders.others, senders.receivers, pair_other, pair_here, wire_other, off)) back)
    (λ a d e f. record {
      sender = senders.others a d e;
      receiver = senders.receivers a d;
      given = refl;
      out = pair_other h.packets m c _ a d e;
      back = pair_other h.packets m c _ d a (grind (arith, nat_tests));
      wire = wire_other w.wires m c ld a d e;
      pair = pair_other pt.view.pair m c _ a d e;
    })

-- a packet moves no message
pub put_standing : (v : View) (a c : ℕ) (ld : Load) (i : MsgId) (z : Spot) → standing (after_packet v a c ld) i z ≡ standing v i z
put_standing v a c ld i z = grind (arith, nat_tests, pair_keeps)

-- the world stands for the point behind the packet
pub stands_put : (b : Boot) (pt : Point) (l : Placed) (w : WorldState) (h : History) (m c : ℕ) (nodes : ℕ → NodeState) (s : Sending Message) (ld : stream.Load Message) → m ≢ c → Senders w m c nodes s
    → ((d : ℕ) → (m == d) ≡ false → nodes d ≡ w.nodes d) → ((d : ℕ) → (nodes d).kernel.records ≡ (w.nodes d).kernel.records) → NodeStands b (point_put pt m c ld) l m (nodes m)
    → Joined b l.bag m c (stream_put w h m c s ld) (with_bytes m c (w.wires m c) ld) (with_line (pt.view.pair m c) (load_of ld))
    → Joined b l.bag c m (with_back (stream_of w h c m) ld) (w.wires c m) (pt.view.pair c m)
    → StandsWith b w pt l h → StandsWith b (world_put w m c nodes ld) (point_put pt m c ld) l (with_put h m c ld)
stands_put b pt l w h m c nodes s ld apart senders others records here there back st =
    let own : (x y : ℕ) → ((point_put pt m c ld).view.pair x y).ids ≡ (pt.view.pair x y).ids = ids_same pt.view.pair m c (with_line (pt.view.pair m c) (load_of ld)) refl in
    record {
      mirrors = mirrors_same b pt l (after_packet pt.view m c (load_of ld)) st.mirrors;
      groups = st.groups;
      ended = st.ended;
      nodes = λ d small. nodes_are b pt l (after_packet pt.view m c (load_of ld)) m w.nodes nodes others (λ z e. refl) (λ z e. own z z) here d (st.nodes d small);
      pairs = λ a d small less differ. pairs_put b pt l w h m c nodes s ld apart senders there back a d (st.pairs a d small less differ);
      counts = λ a d. subst (λ (z : ℕ). z ≤ b.numbers) (sym (ap length (own a d))) (st.counts a d);
      own = λ i x there_ plain. (let k = st.own i x there_ plain in record { told = k.told; mine = k.mine; sender = k.sender });
      tokens = tokens_same pt.view (after_packet pt.view m c (load_of ld)) l (λ d. (w.nodes d).kernel.records) (λ d. (nodes d).kernel.records) (λ i. refl) (λ p. refl) (λ n p. refl) (λ i z. put_standing pt.view m c (load_of ld) i z) records st.tokens;
    }

-- behind the head of a directive the world stands
pub stands_begins : (b : Boot) (w : WorldState) (pt : Point) (l : Placed) (h : History) (m : ℕ) (a : About) → StandsWith b w pt l h → StandsWith b (record w { groups = w.groups + 1 }) (record pt { view = begins pt.view m a }) l h
stands_begins b w pt l h m a st =
    let begins_standing : (v : View) (m : ℕ) (a : About) (i : MsgId) (z : Spot) → standing (begins v m a) i z ≡ standing v i z = λ v m a i z. grind (arith, nat_tests) in
    let next : Point = record pt { view = begins pt.view m a } in
    record {
      mirrors = mirrors_same b pt l (begins pt.view m a) st.mirrors;
      groups = ap (λ (n : ℕ). n + 1) st.groups;
      ended = st.ended;
      nodes = λ d small. node_same b pt l (begins pt.view m a) d (w.nodes d) refl refl (st.nodes d small);
      pairs = λ d c small less differ. pair_stays b pt next l w (record w { groups = w.groups + 1 }) h h d c (record { sender = refl; receiver = refl; given = refl; out = refl; back = refl; wire = refl; pair = refl }) (st.pairs d c small less differ);
      counts = st.counts;
      own = λ i x there plain. (let k = st.own i x there plain in record { told = k.told; mine = k.mine; sender = k.sender });
      tokens = tokens_same pt.view (begins pt.view m a) l (λ d. (w.nodes d).kernel.records) (λ d. (w.nodes d).kernel.records) (λ i. refl) (λ p. refl) (λ n p. refl) (λ i z. begins_standing pt.view m a i z) (λ d. refl) st.tokens;
    }
