-- What a machine gives, in order, is what the rule's parts say, and the world behind it stands.
use Rattle.dm_law_mirror.proofs.Names.{drop-more, ◌-◌, Stream, eqb-true, ◌≡◌, ◌≢◌, ℕ, ◌≤◌, ◌==◌, ◌&&◌, false, List, length, ap, ◌∙◌, sym, subst, inl, inr, arith, Option, All, cases_Bool, nat_tests, Pid, Message, MsgId, IsLawfulMessage, Sending}
use Rattle.dm_law_mirror.proofs.Names.{Receiving, Sent, Boot, Pair, Point, Spot, Queue, Held, Inbox, Untaken, standing, times, two_of, Placed, NodeState, WorldState, AreMessages, History, NodeStands, PairStands, StandsWith, TokensStand, Bool}
use Rattle.dm_law_mirror.proofs.Names.{[], ◌∷◌, refl, if◌then◌else◌, Some, Packet, Line, Load, at_machine, Spelled, spelled, after_line, Sends, Acted, before, spoken, with_packet, zero, suc, ◌+◌, ◌++◌, drop, slice_get, id_eq, id_eq-is}
use Rattle.dm_law_mirror.proofs.Names.{id_eq-same, at_pair, untaken, View, oldest, times-append, behind, none_some}
use Rattle.dm_law_rule.proofs.Names.{Part}
use Rattle.dm_node.specs.declared.out.Out.TheVariants.{Says}
use Rattle.dm_node.specs.Wired.{packet_line}
use Rattle.dm_kernel.specs.State as machine
use Rattle.dm_law_rule.specs.Parts as rule
use Rattle.dm_stream.specs.Packets as stream
use Rattle.dm_law_mirror.proofs.LeftOver.{tokens_less}
use Rattle.dm_law_mirror.proofs.Streams.{Joined, apart_is, at_again, at_here, at_other, at_same, kernel_box, mirrors_same, nodes_are, pair_stands, pairs_are}

-- the world after machine c has acted, but for the count of directives
abbrev pub acted_on : WorldState → ℕ → Acted → WorldState
acted_on w c d = record { nodes = at_machine w.nodes c d.state; wires = (spoken w.wires d.outs).wires; ended = w.ended; groups = w.groups }

pub record Follows (b : Boot) (c : ℕ) (w : WorldState) (pt : Point) (l : Placed) (d : Acted) (ps : List Part) : Type 0 where
  pub end : Spelled
  pub spells : spelled pt ps ≡ Some end
  pub lines : (spoken w.wires d.outs).lines ≡ end.lines
  pub history : History
  pub stands : StandsWith b (acted_on w c d) end.point l history

-- nothing more is given
pub nothing : (b : Boot) (c : ℕ) (w : WorldState) (pt : Point) (l : Placed) (h : History) (n : NodeState) → w.nodes c ≡ n → StandsWith b w pt l h → Follows b c w pt l (record { state = n; outs = [] }) []
nothing b c w pt l h n e s = record {
  end = record { lines = []; point = pt };
  spells = refl;
  lines = refl;
  history = h;
  stands = (let kept : w.nodes ≡ at_machine w.nodes c n = sym (at_same w.nodes c) ∙ ap (at_machine w.nodes c) e in
      let same : w ≡ acted_on w c (record { state = n; outs = [] }) = λ i. record { nodes = kept i; wires = w.wires; ended = w.ended; groups = w.groups } in
      subst (λ (v : WorldState). StandsWith b v pt l h) same s);
}

-- a line first
pub says_on : (b : Boot) (c : ℕ) (w : WorldState) (pt q : Point) (l : Placed) (n : NodeState) (x y : Line) (d : Acted) (ps : List Part) → x ≡ y → after_line pt y ≡ Some q → Follows b c (record w { nodes = at_machine w.nodes c n }) q l d ps
    → Follows b c w pt l (before (Says x ∷ []) d) (rule.Says y ∷ ps)
says_on b c w pt q l n x y d ps same next f = record {
  end = behind (y ∷ []) f.end;
  spells = search (f.spells);
  lines = λ i. same i ∷ f.lines i;
  history = f.history;
  stands = (let again : acted_on (record w { nodes = at_machine w.nodes c n }) c d ≡ acted_on w c d = λ i. record { nodes = at_again w.nodes c n d.state i; wires = (spoken w.wires d.outs).wires; ended = w.ended; groups = w.groups } in
      subst (λ (v : WorldState). StandsWith b v f.end.point l f.history) again f.stands);
}

-- a packet first
pub sends_on : (b : Boot) (c : ℕ) (w : WorldState) (pt q : Point) (l : Placed) (n : NodeState) (p : Packet) (from to : ℕ) (carried : Load) (d : Acted) (ps : List Part) → packet_line w.wires p ≡ rule.packet_line pt.view from to carried → after_line pt (rule.packet_line pt.view from to carried) ≡ Some q
    → Follows b c (record w { nodes = at_machine w.nodes c n; wires = with_packet w.wires p }) q l d ps → Follows b c w pt l (before (Sends p ∷ []) d) (rule.Transmits from to carried ∷ ps)
sends_on b c w pt q l n p from to carried d ps same next f = record {
  end = behind (rule.packet_line pt.view from to carried ∷ []) f.end;
  spells = search (f.spells);
  lines = λ i. same i ∷ f.lines i;
  history = f.history;
  stands = (let again : acted_on (record w { nodes = at_machine w.nodes c n; wires = with_packet w.wires p }) c d ≡ acted_on w c (before (Sends p ∷ []) d) = λ i. record { nodes = at_again w.nodes c n d.state i; wires = (spoken (with_packet w.wires p) d.outs).wires; ended = w.ended; groups = w.groups } in
      subst (λ (v : WorldState). StandsWith b v f.end.point l f.history) again f.stands);
}

-- What stands after an event of a delivery stood before: a message that is taken comes from its stream into the inbox.

-- a message stands somewhere
abbrev pub Stood : View → MsgId → Type 0
Stood v i = (z : Spot) × (1 ≤ standing v i z)

-- of what was routed, less is untaken the more was taken
drop_all : (i : MsgId) (ids : List MsgId) (n : ℕ) → times i (drop n ids) ≤ times i ids
drop_all i [] zero = omega arith
drop_all i [] (suc n) = omega arith
drop_all i (j ∷ js) zero = omega arith
drop_all i (j ∷ js) (suc n) = let h = drop_all i js n in omega (arith, h)

drop_fewer : (i : MsgId) (ids : List MsgId) (m n : ℕ) → m ≤ n → times i (drop n ids) ≤ times i (drop m ids)
drop_fewer i ids m n le = subst (λ (xs : List MsgId). times i xs ≤ times i (drop m ids)) (drop-more m (n - m) n ids (omega (arith, le))) (drop_all i (drop m ids) (n - m))

pub untaken_stood : (i : MsgId) (p q : Pair) → q.ids ≡ p.ids → p.taken ≤ q.taken → 1 ≤ times i (untaken q) → 1 ≤ times i (untaken p)
untaken_stood i p q ids more least = grind (arith, nat_tests, drop_fewer)

-- the message that is next stands untaken
get_times : (i : MsgId) (ids : List MsgId) (n : ℕ) → slice_get ids n ≡ Some i → 1 ≤ times i (drop n ids)
get_times i [] zero e = none_some i e
get_times i [] (suc n) e = none_some i e
get_times i (j ∷ js) zero e = grind (arith, nat_tests, id_eq-same)
get_times i (j ∷ js) (suc n) e = get_times i js n e

pub came_one : (v : View) (a c : ℕ) (j i : MsgId) → oldest (v.pair a c) ≡ Some j → 1 ≤ times i (v.inbox c ++ j ∷ []) → Stood v i
came_one v a c j i first least = elim (cases_Bool (id_eq i j)) [
  | inl same ↦
      (Untaken a c, subst (λ (k : MsgId). 1 ≤ times k (untaken (v.pair a c))) (sym (id_eq-is i j same)) (get_times j (v.pair a c).ids (v.pair a c).taken first))
  | inr off ↦ (Inbox c, omega (arith, times-append i (v.inbox c) (j ∷ []), ap (λ (t : Bool). (if t then 1 else 0) + 0) off, least))
]

pub took_set : (f : ℕ → ℕ → Pair) (a c : ℕ) (p : Pair) → (f a c).taken ≤ p.taken → (m n : ℕ) → (f m n).taken ≤ (at_pair f a c p m n).taken
took_set f a c p e m n = grind (arith, nat_tests, two_of)

-- Machine c gets a packet of machine a, or takes a message that it kept: what stands then of the whole world.

-- the point where pairs and inboxes are so
abbrev pub with_pairs : Point → (ℕ → ℕ → Pair) → (ℕ → List MsgId) → Point
with_pairs pt pair inbox = record pt { view = record pt.view { pair = pair; inbox = inbox } }

-- not this pair of machines
abbrev pub IsOther : ℕ → ℕ → ℕ → ℕ → Type 0
IsOther a c x y = ((a == x) && (c == y)) ≡ false

-- a machine after its inbox and its streams have changed
pub node_on : (b : Boot) (pt : Point) (l : Placed) (pair : ℕ → ℕ → Pair) (inbox : ℕ → List MsgId) (m : ℕ) (n : NodeState) (ms : List Message) (ss : ℕ → Sending Message) (rs : ℕ → Receiving Message)
    → AreMessages l.bag (inbox m) ms → All IsLawfulMessage ms → (pair m m).ids ≡ (pt.view.pair m m).ids → NodeStands b pt l m n → NodeStands b (with_pairs pt pair inbox) l m (record n { kernel = record n.kernel { inbox = ms }; senders = ss; receivers = rs })
node_on b pt l pair inbox m n ms ss rs box lawful ids h = search (kernel_box b pt l (with_pairs pt pair inbox).view m n.kernel ms box h.kernel, h.home ∙ ap length (sym ids))

module _ (b : Boot) (w : WorldState) (pt : Point) (l : Placed) (h : History) (a c : ℕ) (n : NodeState) (wires : ℕ → ℕ → List Sent) (packets : ℕ → ℕ → List (stream.Packet Message)) (pair : ℕ → ℕ → Pair) (inbox : ℕ → List MsgId)
    (there : Stream Message) (there_wire : List Sent) (there_pair : Pair) (back : Stream Message) (back_wire : List Sent) (back_pair : Pair) where
  -- what the event leaves of the other machines, wires and streams, and what both streams are then
  pub record MovesAlone : Type 0 where
    pub boxes : (d : ℕ) → (c == d) ≡ false → inbox d ≡ pt.view.inbox d
    pub records : n.kernel.records ≡ (w.nodes c).kernel.records
    pub senders : (y : ℕ) → (a == y) ≡ false → n.senders y ≡ (w.nodes c).senders y
    pub receivers : (y : ℕ) → (a == y) ≡ false → n.receivers y ≡ (w.nodes c).receivers y
    pub on_wires : (x y : ℕ) → IsOther a c x y → wires x y ≡ w.wires x y
    pub on_packets : (x y : ℕ) → IsOther a c x y → packets x y ≡ h.packets x y
    pub there_sender : (w.nodes a).senders c ≡ there.sender
    pub there_receiver : n.receivers a ≡ there.receiver
    pub there_given : h.given a c ≡ there.given
    pub there_out : packets a c ≡ there.out
    pub there_back : packets c a ≡ there.back
    pub there_sent : wires a c ≡ there_wire
    pub there_said : pair a c ≡ there_pair
    pub back_sender : n.senders a ≡ back.sender
    pub back_receiver : (w.nodes a).receivers c ≡ back.receiver
    pub back_given : h.given c a ≡ back.given
    pub back_out : packets c a ≡ back.out
    pub back_back : packets a c ≡ back.back
    pub back_sent : wires c a ≡ back_wire
    pub back_said : pair c a ≡ back_pair

  -- what an event on machine c, of a packet from machine a, changes
  pub record Moves : Type 0 where
    pub pairs : (x y : ℕ) → IsOther a c x y → IsOther c a x y → pair x y ≡ pt.view.pair x y
    pub ids : (x y : ℕ) → (pair x y).ids ≡ (pt.view.pair x y).ids
    pub took : (x y : ℕ) → (pt.view.pair x y).taken ≤ (pair x y).taken
    pub came : (i : MsgId) → 1 ≤ times i (inbox c) → Stood pt.view i
    pub node : NodeStands b (with_pairs pt pair inbox) l c n
    pub there_stands : Joined b l.bag a c there there_wire there_pair
    pub back_stands : Joined b l.bag c a back back_wire back_pair
    pub alone : MovesAlone
    pub open alone use *

module _ (b : Boot) (w : WorldState) (pt : Point) (l : Placed) (h : History) (a c : ℕ) (n : NodeState) (wires : ℕ → ℕ → List Sent) (packets : ℕ → ℕ → List (stream.Packet Message)) (pair : ℕ → ℕ → Pair) (inbox : ℕ → List MsgId)
    (there : Stream Message) (there_wire : List Sent) (there_pair : Pair) (back : Stream Message) (back_wire : List Sent) (back_pair : Pair) (e : Moves b w pt l h a c n wires packets pair inbox there there_wire there_pair back back_wire back_pair)
    (s : StandsWith b w pt l h) (apart : a ≢ c) where
  abbrev after : WorldState
  after = record w { nodes = at_machine w.nodes c n; wires = wires }

  abbrev later : History
  later = record h { packets = packets }

  abbrev next : Point
  next = with_pairs pt pair inbox

  other_node : at_machine w.nodes c n a ≡ w.nodes a
  other_node = at_other w.nodes c n a (apart_is c a (λ same. apart (sym same)))

  there_is : PairStands b next l after later a c
  there_is = pair_stands b next l after later a c there there_wire there_pair
      (search (ap (λ (z : NodeState). z.senders c) other_node ∙ e.there_sender, ap (λ (z : NodeState). z.receivers a) (at_here w.nodes c n) ∙ e.there_receiver)) e.there_stands

  back_is : PairStands b next l after later c a
  back_is = pair_stands b next l after later c a back back_wire back_pair
      (search (ap (λ (z : NodeState). z.senders a) (at_here w.nodes c n) ∙ e.back_sender, ap (λ (z : NodeState). z.receivers c) other_node ∙ e.back_receiver)) e.back_stands

  other_sender : (x y : ℕ) → IsOther c a x y → (at_machine w.nodes c n x).senders y ≡ (w.nodes x).senders y
  other_sender x y other = grind (arith, nat_tests, eqb-true, e.senders)

  other_receiver : (x y : ℕ) → IsOther a c x y → (at_machine w.nodes c n y).receivers x ≡ (w.nodes y).receivers x
  other_receiver x y other = grind (arith, nat_tests, eqb-true, e.receivers)

  -- what stands now stood before
  stood : (i : MsgId) (z : Spot) → 1 ≤ standing next.view i z → Stood pt.view i
  stood i (Inbox m) least = elim (cases_Bool (c == m)) [
    | inl same ↦ e.came i (subst (λ (d : ℕ). 1 ≤ times i (inbox d)) (sym (eqb-true c m same)) least)
    | inr off ↦ (Inbox m, subst (λ (ids : List MsgId). 1 ≤ times i ids) (e.boxes m off) least)
  ]
  stood i (Untaken x y) least = (Untaken x y, untaken_stood i (pt.view.pair x y) (pair x y) (e.ids x y) (e.took x y) least)
  stood i (Queue m p) least = (Queue m p, least)
  stood i (Held m p) least = (Held m p, least)

  -- the machines know what they knew
  records_at : (m : ℕ) → (at_machine w.nodes c n m).kernel.records ≡ (w.nodes m).kernel.records
  records_at m = grind (arith, nat_tests, eqb-true, e.records)

  tokens_on : TokensStand next.view l (λ m. (after.nodes m).kernel.records)
  tokens_on =
      tokens_less pt.view next.view l (λ m. (w.nodes m).kernel.records) (λ m. (after.nodes m).kernel.records) (λ i. refl) (λ p. refl) (λ m p. refl) (λ m p. ap (λ (f : Pid → Option machine.KernelKnown). f p) (records_at m))
      (λ i t z told between least. stood i z least) s.tokens

  pub moves_stand : StandsWith b after next l later
  moves_stand = record {
    mirrors = mirrors_same b pt l next.view s.mirrors;
    groups = s.groups;
    ended = s.ended;
    nodes = λ d few. nodes_are b pt l next.view c w.nodes after.nodes (at_other w.nodes c n) e.boxes (λ z off. e.ids z z) (subst (NodeStands b next l c) (sym (at_here w.nodes c n)) e.node) d (s.nodes d few);
    pairs = λ x y few less differ. pairs_are b pt next l w after h later a c there_is back_is
        (λ x y t u. search (other_sender x y u, other_receiver x y t, e.on_packets x y t, e.on_packets y x (grind (arith, nat_tests)), e.on_wires x y t, e.pairs x y t u)) x y (s.pairs x y few less differ);
    counts = λ x y. subst (λ (ids : List MsgId). length ids ≤ b.numbers) (sym (e.ids x y)) (s.counts x y);
    own = λ i m there plain. let k = s.own i m there plain in record { told = k.told; mine = k.mine; sender = k.sender };
    tokens = tokens_on;
  }
