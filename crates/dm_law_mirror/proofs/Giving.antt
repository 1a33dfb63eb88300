-- A message is given to the stream of a pair, and goes out at once or waits.
use Rattle.dm_law_mirror.proofs.Names.{◌≡◌, ◌≢◌, ℕ, ◌+◌, ◌<◌, ◌≤◌, ◌==◌, ◌&&◌, Bool, false, [], ◌∷◌, ◌++◌, length, refl, ap, ◌∙◌, sym, subst, arith, if◌then◌else◌, Some, eqb-true, nat_tests, length-append, Pid, Message, MessageKind}
use Rattle.dm_law_mirror.proofs.Names.{IsLawfulMessage, Sending, due, given_count, with_given, Receiving, Stream, Boot, NodeState, with_sender, at_machine, at_pair, Pair, View, after_packet, after_put, routed_on, Point, Placed, WorldState}
use Rattle.dm_law_mirror.proofs.Names.{History, NodeStands, PairStands, StandsWith, stream_of}
use Rattle.dm_node.proofs.Names.{with_sent}
use Rattle.dm_stream.specs.Packets.{Load}
use Rattle.dm_stream.specs.Stream.{is_worn}
use Rattle.dm_line.specs.declared.line.Load.TheVariants as load
use Rattle.dm_law_mirror.proofs.Streams.{Joined, given_length, is_given, joined, pair_stands, put_back, went_out, apart_is, at_here, at_again, at_other, node_same, nodes_are, pair_here, pair_other, pairs_are}
use Rattle.dm_law_mirror.proofs.Puts.{Senders, ids_same, one_sender, point_put, stands_put, with_put, world_put}
use Rattle.dm_law_mirror.proofs.Route.Puts.{CoreStands}
use Rattle.dm_law_mirror.proofs.Kernel.Sets.{left_off as both_false}

-- a machine with other streams
pub node_streams : (b : Boot) (pt : Point) (l : Placed) (m : ℕ) (n : NodeState) (senders : ℕ → Sending Message) (receivers : ℕ → Receiving Message) → NodeStands b pt l m n → NodeStands b pt l m (record n { senders = senders; receivers = receivers })
node_streams b pt l m n senders receivers h = record { kernel = h.kernel; lawful = h.lawful; machines = h.machines; numbers = h.numbers; home = h.home }

-- so many messages count, by the machine and by the lines
pub count_given : (b : Boot) (pt : Point) (l : Placed) (w : WorldState) (h : History) (a c : ℕ) → PairStands b pt l w h a c → given_count ((w.nodes a).senders c) ≡ length (pt.view.pair a c).ids
count_given b pt l w h a c s = s.stream.counted.given ∙ sym (given_length b l.bag a c (stream_of w h a c) (w.wires a c) (pt.view.pair a c) (joined b pt l w h a c s))

-- the history with one more message
abbrev pub with_gift : History → ℕ → ℕ → Message → History
with_gift h a c x = record h { given = at_pair h.given a c (h.given a c ++ x ∷ []) }

-- the machine, the world and the point with one more message
abbrev pub node_gave : WorldState → ℕ → ℕ → Message → NodeState
node_gave w m c x = with_sender (w.nodes m) c (with_given ((w.nodes m).senders c) x)

abbrev pub world_gave : WorldState → ℕ → ℕ → Message → WorldState
world_gave w m c x = record w { nodes = at_machine w.nodes m (node_gave w m c x) }

abbrev pub pair_gave : Pair → Message → Pair
pair_gave p x = record p { ids = p.ids ++ x.id ∷ [] }

abbrev pub stream_gave : Stream Message → Message → Stream Message
stream_gave s x = record s { sender = with_given s.sender x; given = s.given ++ x ∷ [] }

-- on a pair of different machines a route is one more message
routed_apart : (m c : ℕ) (p : Pair) (x : Message) → (m == c) ≡ false → routed_on m c p x.id ≡ pair_gave p x
routed_apart m c p x e = λ i. record p { ids = p.ids ++ x.id ∷ []; taken = if e i then p.taken + 1 else p.taken; gone = if e i then p.gone + 1 else p.gone; acked = if e i then p.acked + 1 else p.acked }

pub more_if : (b : Boot) (f : ℕ → ℕ → Pair) (m c a d : ℕ) (p : Pair) (t : Bool) → ((m == a) && (c == d)) ≡ t → length p.ids ≤ b.numbers → length (f a d).ids ≤ b.numbers → length (if t then p else f a d).ids ≤ b.numbers
more_if b f m c a d p t e more old = grind (arith, nat_tests)

-- the pair counts one more, and may
pub one_more : (b : Boot) (p : Pair) (x : Message) → length p.ids ≤ b.numbers → length p.ids ≢ b.numbers → length (p.ids ++ x.id ∷ []) ≤ b.numbers
one_more b p x few fresh = omega (arith, few, fresh, length-append p.ids (x.id ∷ []))

module _ (b : Boot) (pt : Point) (l : Placed) (w : WorldState) (h : History) (m c : ℕ) (x : Message) (k : MessageKind) (q : Pid) where
  abbrev gave : View
  gave = after_put pt.view m c x.id k q

  abbrev next : Point
  next = record pt { view = gave }

  pairs_gave : m ≢ c → Joined b l.bag m c (stream_gave (stream_of w h m c) x) (w.wires m c) (pair_gave (pt.view.pair m c) x) → PairStands b pt l w h c m
      → (a d : ℕ) → PairStands b pt l w h a d → PairStands b next l (world_gave w m c x) (with_gift h m c x) a d
  pairs_gave apart there back =
      let off : ((m == c) && (c == m)) ≡ false = both_false (m == c) (c == m) (apart_is m c apart) in
      let senders : Senders w m c (at_machine w.nodes m (node_gave w m c x)) (with_given ((w.nodes m).senders c) x) = one_sender w m c (node_gave w m c x) (with_given ((w.nodes m).senders c) x) refl refl in
      pairs_are b pt next l w (world_gave w m c x) h (with_gift h m c x) m c
      (pair_stands b next l (world_gave w m c x) (with_gift h m c x) m c (stream_gave (stream_of w h m c) x) (w.wires m c) (pair_gave (pt.view.pair m c) x) (record {
        sender = senders.here;
        receiver = senders.receivers m c;
        given = pair_here h.given m c _;
        out = refl;
        back = refl;
        wire = refl;
        pair = pair_here pt.view.pair m c _ ∙ routed_apart m c (pt.view.pair m c) x (apart_is m c apart);
      }) there)
      (pair_stands b next l (world_gave w m c x) (with_gift h m c x) c m (stream_of w h c m) (w.wires c m) (pt.view.pair c m) (record {
        sender = senders.others c m off;
        receiver = senders.receivers c m;
        given = pair_other h.given m c _ c m off;
        out = refl;
        back = refl;
        wire = refl;
        pair = pair_other pt.view.pair m c _ c m off;
      }) (joined b pt l w h c m back))
      (λ a d e f. record {
        sender = senders.others a d e;
        receiver = senders.receivers a d;
        given = pair_other h.given m c _ a d e;
        out = refl;
        back = refl;
        wire = refl;
        pair = pair_other pt.view.pair m c _ a d e;
      })

  own_apart : m ≢ c → (d : ℕ) → ((m == d) && (c == d)) ≡ false
  own_apart apart d = grind (arith, nat_tests)

  -- the world stands for the point behind the put
  pub stands_gave : m ≢ c → m < pt.kernel.machines → c < pt.kernel.machines → is_worn ((w.nodes m).senders c) ≡ false → l.bag x.id ≡ Some x → IsLawfulMessage x → CoreStands b w pt l h → CoreStands b (world_gave w m c x) next l (with_gift h m c x)
  stands_gave apart small less fresh there lawful st =
      let pair : PairStands b pt l w h m c = st.pairs m c small less apart in
      let box : gave.inbox ≡ pt.view.inbox = ap (λ (t : Bool). if t then at_machine pt.view.inbox c (pt.view.inbox c ++ x.id ∷ []) else pt.view.inbox) (apart_is m c apart) in
      let own : (d : ℕ) → (gave.pair d d).ids ≡ (pt.view.pair d d).ids = λ d. ap (λ (p : Pair). p.ids) (pair_other pt.view.pair m c _ d d (own_apart apart d)) in
      let full : length (pt.view.pair m c).ids ≢ b.numbers = let e : given_count ((w.nodes m).senders c) ≡ length (pt.view.pair m c).ids = count_given b pt l w h m c pair in let f : ((w.nodes m).senders c).numbers ≡ b.numbers = pair.numbers in grind (arith, nat_tests, e, f, fresh) in
      record {
        groups = st.groups;
        ended = st.ended;
        nodes = λ d few.
            nodes_are b pt l gave m w.nodes (at_machine w.nodes m (node_gave w m c x)) (λ z e. at_other w.nodes m _ z e) (λ z e. (λ i. box i z)) (λ z e. own z)
            (subst (λ (n : NodeState). NodeStands b next l m n) (sym (at_here w.nodes m (node_gave w m c x))) (node_streams b next l m (w.nodes m) (node_gave w m c x).senders (w.nodes m).receivers (node_same b pt l gave m (w.nodes m) (λ i. box i m) (own m) (st.nodes m small))))
            d (st.nodes d few);
        pairs = λ a d few more differ. pairs_gave apart (is_given b l.bag m c (stream_of w h m c) (w.wires m c) (pt.view.pair m c) x fresh there lawful (joined b pt l w h m c pair)) (st.pairs c m less small (λ e. apart (sym e))) a d (st.pairs a d few more differ);
        counts = λ a d. more_if b pt.view.pair m c a d (routed_on m c (pt.view.pair m c) x.id) ((m == a) && (c == d)) refl (one_more b (pt.view.pair m c) x (st.counts m c) full) (st.counts a d);
      }

-- the records of machines stay
pub same_records : (w : WorldState) (m : ℕ) (n : NodeState) (d : ℕ) (t : Bool) → (m == d) ≡ t → n.kernel.records ≡ (w.nodes m).kernel.records → (if t then n else w.nodes d).kernel.records ≡ (w.nodes d).kernel.records
same_records w m n d t e same = grind (arith, nat_tests, eqb-true)

-- and it goes out
abbrev pub node_went : WorldState → ℕ → ℕ → Message → NodeState
node_went w m c x = with_sender (node_gave w m c x) c (with_sent ((node_gave w m c x).senders c))

pub due_stands : (b : Boot) (pt : Point) (l : Placed) (w : WorldState) (h : History) (m c n : ℕ) (x : Message) → m ≢ c → m < pt.kernel.machines → c < pt.kernel.machines → due ((w.nodes m).senders c) ≡ Some (n, x) → StandsWith b w pt l h
    → StandsWith b (world_put w m c (at_machine w.nodes m (with_sender (w.nodes m) c (with_sent ((w.nodes m).senders c)))) (Load.Data n x)) (point_put pt m c (Load.Data n x)) l (with_put h m c (Load.Data n x))
due_stands b pt l w h m c n x apart small less out st =
    let s : Sending Message = with_sent ((w.nodes m).senders c) in
    let g : NodeState = with_sender (w.nodes m) c s in
    stands_put b pt l w h m c (at_machine w.nodes m g) s (Load.Data n x) apart (one_sender w m c g s refl refl) (λ z e. at_other w.nodes m g z e) (λ d. same_records w m g d (m == d) refl refl)
    (subst (λ (z : NodeState). NodeStands b (point_put pt m c (Load.Data n x)) l m z) (sym (at_here w.nodes m g))
    (node_streams b (point_put pt m c (Load.Data n x)) l m (w.nodes m) g.senders (w.nodes m).receivers (node_same b pt l (after_packet pt.view m c (load.Data n)) m (w.nodes m) refl (ids_same pt.view.pair m c _ refl m m) (st.nodes m small))))
    (went_out b l.bag m c (stream_of w h m c) (w.wires m c) (pt.view.pair m c) n x out (joined b pt l w h m c (st.pairs m c small less apart)))
    (put_back b l.bag c m (stream_of w h c m) (w.wires c m) (pt.view.pair c m) n x (joined b pt l w h c m (st.pairs c m less small (λ e. apart (sym e))))) st

pub stands_went : (b : Boot) (pt : Point) (l : Placed) (w : WorldState) (h : History) (m c n : ℕ) (x : Message) → m ≢ c → m < pt.kernel.machines → c < pt.kernel.machines → due (with_given ((w.nodes m).senders c) x) ≡ Some (n, x)
    → StandsWith b (world_gave w m c x) pt l h → StandsWith b (world_put (world_gave w m c x) m c (at_machine w.nodes m (node_went w m c x)) (Load.Data n x)) (point_put pt m c (Load.Data n x)) l (with_put h m c (Load.Data n x))
stands_went b pt l w h m c n x apart small less out st =
    let u : WorldState = world_gave w m c x in
    let is : u.nodes m ≡ node_gave w m c x = at_here w.nodes m (node_gave w m c x) in
    let given : (u.nodes m).senders c ≡ with_given ((w.nodes m).senders c) x = (λ i. (is i).senders c) ∙ at_here (w.nodes m).senders c (with_given ((w.nodes m).senders c) x) in
    let nodes : at_machine u.nodes m (with_sender (u.nodes m) c (with_sent ((u.nodes m).senders c))) ≡ at_machine w.nodes m (node_went w m c x) =
    ap (λ (z : NodeState). at_machine u.nodes m (with_sender z c (with_sent (z.senders c)))) is ∙ at_again w.nodes m (node_gave w m c x) (node_went w m c x) in
    subst (λ (f : ℕ → NodeState). StandsWith b (world_put u m c f (Load.Data n x)) (point_put pt m c (Load.Data n x)) l (with_put h m c (Load.Data n x))) nodes (due_stands b pt l u h m c n x apart small less (ap due given ∙ out) st)
