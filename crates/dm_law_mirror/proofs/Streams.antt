-- An event of a stream, and what stands of its pair of machines behind it.
use Rattle.dm_law_mirror.proofs.Names.{◌≡◌, ℕ, ◌+◌, ◌<◌, ◌≤◌, nat_lt, Bool, true, false, List, [], ◌∷◌, ◌++◌, length, map, drop, is_some, refl, ap, ◌∙◌, sym, subst, arith, if◌then◌else◌, All, Option, None, Some, nat_tests, map-append}
use Rattle.dm_law_mirror.proofs.Names.{drop-append-le, length-map, All-push, Message, MsgId, IsLawfulMessage, due, outstanding, numbered, with_given, kept_under, Stream, Give, GoOut, GoAgain, OtherData, goes_again, StreamStands-happens}
use Rattle.dm_law_mirror.proofs.Names.{spelling, Boot, Load, Pair, gone_after, Point, has, Placed, WorldState, AreMessages, History, PairStands, bytes_of, line_of, load_of, stream_of, ◌==◌, ◌&&◌, slice_get, eqb-true, eq-eqb, Pid, KernelState}
use Rattle.dm_law_mirror.proofs.Names.{room_of, NodeState, at_machine, at_pair, Spot, standing, View, Mirrors, KernelStands, NodeStands, RoomStands, AllRecords, TokensStand, two_of, packet_of_load, SentLoad, message_id}
use Rattle.dm_node.proofs.Names.{with_sent}
use Rattle.dm_stream.specs.Stream.{gives, goes_out, is_worn}
pub use Rattle.dm_law_rule.proofs.QuietTests.{eq_not as apart_is}
use Rattle.dm_stream.specs.Packets as stream
use Rattle.dm_stream.specs.Order as order
use Rattle.dm_wire.specs.Sent as wire
use Rattle.dm_kernel.specs.State as machine
use Rattle.dm_law_mirror.proofs.Rooms.{taken_same}
use Rattle.dm_law_mirror.proofs.LeftOver.{tokens_less}

-- what stands of a pair, over its stream, the bytes on its wire, and what the lines say of it
pub record Joined (b : Boot) (bag : MsgId → Option Message) (a c : ℕ) (s : Stream Message) (sent : List wire.Sent) (p : Pair) : Type 0 where
  pub stream : order.StreamStands s
  pub ids : map message_id s.given ≡ p.ids
  pub untaken : AreMessages bag (drop p.taken p.ids) (drop p.taken s.given)
  pub taken : s.receiver.count ≡ p.taken
  pub gone : s.sender.gone ≡ p.gone
  pub acked : s.sender.acked ≡ p.acked
  pub numbers : s.sender.numbers ≡ b.numbers
  pub kept : (n : ℕ) → is_some (kept_under s.receiver n) ≡ has n p.kept
  pub packets : map line_of s.out ≡ p.wire
  pub bytes : sent ≡ map (bytes_of a c) s.out
  pub lawful : All IsLawfulMessage s.given

pub joined : (b : Boot) (pt : Point) (l : Placed) (w : WorldState) (h : History) (a c : ℕ) → PairStands b pt l w h a c → Joined b l.bag a c (stream_of w h a c) (w.wires a c) (pt.view.pair a c)
joined b pt l w h a c s = search

-- where the world, the history and the view have this stream, these bytes and this pair, the pair stands; what was taken is
-- the beginning of what was given
pub record Has (pt : Point) (w : WorldState) (h : History) (a c : ℕ) (s : Stream Message) (sent : List wire.Sent) (p : Pair) : Type 0 where
  pub sender : (w.nodes a).senders c ≡ s.sender
  pub receiver : (w.nodes c).receivers a ≡ s.receiver
  pub given : h.given a c ≡ s.given
  pub out : h.packets a c ≡ s.out
  pub back : h.packets c a ≡ s.back
  pub wire : w.wires a c ≡ sent
  pub pair : pt.view.pair a c ≡ p

pub pair_stands : (b : Boot) (pt : Point) (l : Placed) (w : WorldState) (h : History) (a c : ℕ) (s : Stream Message) (sent : List wire.Sent) (p : Pair) → Has pt w h a c s sent p → Joined b l.bag a c s sent p → PairStands b pt l w h a c
pair_stands b pt l w h a c s sent p e j =
    let pair_of : (b : Boot) (pt : Point) (l : Placed) (w : WorldState) (h : History) (a c : ℕ) → Joined b l.bag a c (stream_of w h a c) (w.wires a c) (pt.view.pair a c) → PairStands b pt l w h a c = λ b pt l w h a c s. search in
    let whole : stream_of w h a c ≡ s = grind (arith, nat_tests, j.stream.in_order.taken) in
    pair_of b pt l w h a c (subst (λ (z : Stream Message). Joined b l.bag a c z (w.wires a c) (pt.view.pair a c)) (sym whole) (subst (λ (z : List wire.Sent). Joined b l.bag a c s z (pt.view.pair a c)) (sym e.wire) (subst (λ (z : Pair). Joined b l.bag a c s sent z) (sym e.pair) j)))

-- a pair that is as it was
abbrev pub Stays : Point → WorldState → History → Point → WorldState → History → ℕ → ℕ → Type 0
Stays pt w h next after later a c = Has next after later a c (stream_of w h a c) (w.wires a c) (pt.view.pair a c)

pub pair_stays : (b : Boot) (pt next : Point) (l : Placed) (w after : WorldState) (h later : History) (a c : ℕ) → Stays pt w h next after later a c → PairStands b pt l w h a c → PairStands b next l after later a c
pair_stays b pt next l w after h later a c e s = pair_stands b next l after later a c (stream_of w h a c) (w.wires a c) (pt.view.pair a c) e (joined b pt l w h a c s)

-- a packet goes on the wire out, and on the wire back
abbrev pub with_out : Stream Message → stream.Load Message → Stream Message
with_out s l = record s { out = s.out ++ stream.just_put l ∷ [] }

abbrev pub with_back : Stream Message → stream.Load Message → Stream Message
with_back s l = record s { back = s.back ++ stream.just_put l ∷ [] }

abbrev pub with_bytes : ℕ → ℕ → List wire.Sent → stream.Load Message → List wire.Sent
with_bytes a c sent l = sent ++ wire.just_put (spelling (packet_of_load a c l)) ∷ []

abbrev pub with_line : Pair → Load → Pair
with_line p l = record p { gone = gone_after l p.gone; wire = p.wire ++ record { load = l; delivered = false } ∷ [] }

pub lines_put : (out : List (stream.Packet Message)) (l : stream.Load Message) (ws : List SentLoad) → map line_of out ≡ ws → map line_of (out ++ stream.just_put l ∷ []) ≡ ws ++ record { load = load_of l; delivered = false } ∷ []
lines_put out l ws e = map-append line_of out (stream.just_put l ∷ []) ∙ ap (λ (xs : List SentLoad). xs ++ record { load = load_of l; delivered = false } ∷ []) e

pub bytes_put : (a c : ℕ) (out : List (stream.Packet Message)) (l : stream.Load Message) (sent : List wire.Sent) → sent ≡ map (bytes_of a c) out → with_bytes a c sent l ≡ map (bytes_of a c) (out ++ stream.just_put l ∷ [])
bytes_put a c out l sent e = ap (λ (xs : List wire.Sent). xs ++ wire.just_put (spelling (packet_of_load a c l)) ∷ []) e ∙ sym (map-append (bytes_of a c) out (stream.just_put l ∷ []))

-- so many have been given
pub given_length : (b : Boot) (bag : MsgId → Option Message) (a c : ℕ) (s : Stream Message) (sent : List wire.Sent) (p : Pair) → Joined b bag a c s sent p → length p.ids ≡ length s.given
given_length b bag a c s sent p j = sym (ap length j.ids) ∙ length-map s.given message_id

pub taken_within : (b : Boot) (bag : MsgId → Option Message) (a c : ℕ) (s : Stream Message) (sent : List wire.Sent) (p : Pair) → Joined b bag a c s sent p → p.taken ≤ length s.given
taken_within b bag a c s sent p j = omega (arith, j.stream.in_order.taken_gone, j.stream.in_order.gone_given, j.taken)

-- a message is given
untaken_then : (bag : MsgId → Option Message) (n : ℕ) (ids : List MsgId) (xs : List Message) (x : Message) → n ≤ length ids → n ≤ length xs → bag x.id ≡ Some x → AreMessages bag (drop n ids) (drop n xs) → AreMessages bag (drop n (ids ++ x.id ∷ [])) (drop n (xs ++ x ∷ []))
untaken_then bag n ids xs x few less there e =
    ap (map bag) (drop-append-le n ids (x.id ∷ []) few) ∙ map-append bag (drop n ids) (x.id ∷ []) ∙ (λ i. e i ++ there i ∷ [])
    ∙ sym (map-append Some (drop n xs) (x ∷ [])) ∙ ap (map Some) (sym (drop-append-le n xs (x ∷ []) less))

pub is_given : (b : Boot) (bag : MsgId → Option Message) (a c : ℕ) (s : Stream Message) (sent : List wire.Sent) (p : Pair) (x : Message) → is_worn s.sender ≡ false → bag x.id ≡ Some x → IsLawfulMessage x → Joined b bag a c s sent p → Joined b bag a c (record s { sender = with_given s.sender x; given = s.given ++ x ∷ [] }) sent (record p { ids = p.ids ++ x.id ∷ [] })
is_given b bag a c s sent p x fresh there lawful j = search (
  subst (λ (z : Bool). order.StreamStands (gives s x z)) fresh (StreamStands-happens s (Give x) j.stream),
  map-append message_id s.given (x ∷ []) ∙ ap (λ (is : List MsgId). is ++ x.id ∷ []) j.ids,
  untaken_then bag p.taken p.ids s.given x (let k = taken_within b bag a c s sent p j in omega (arith, k, given_length b bag a c s sent p j)) (taken_within b bag a c s sent p j) there j.untaken,
  All-push IsLawfulMessage s.given x j.lawful lawful,
)

due_if : (n k : ℕ) (o : Option Message) (x : Message) (t : Bool) → (if t then numbered k o else None) ≡ Some (n, x) → (t ≡ true) × (n ≡ k)
due_if n k o x t e = grind (arith, nat_tests)

pub gone_next : (n g : ℕ) → n ≡ g → g + 1 ≡ gone_after (Load.Data n) g
gone_next n g e = grind (arith, nat_tests)

pub gone_again : (n g : ℕ) → n < g → g ≡ gone_after (Load.Data n) g
gone_again n g e = grind (arith, nat_tests)

pub went_out : (b : Boot) (bag : MsgId → Option Message) (a c : ℕ) (s : Stream Message) (sent : List wire.Sent) (p : Pair) (n : ℕ) (x : Message) → due s.sender ≡ Some (n, x) → Joined b bag a c s sent p
    → Joined b bag a c (record s { sender = with_sent s.sender; out = s.out ++ stream.just_put (stream.Data n x) ∷ [] }) (with_bytes a c sent (stream.Data n x)) (with_line p (Load.Data n))
went_out b bag a c s sent p n x next j = search (
  subst (λ (z : Option (ℕ × Message)). order.StreamStands (goes_out s z)) next (StreamStands-happens s GoOut j.stream),
  ap (λ (g : ℕ). g + 1) j.gone ∙ gone_next n p.gone ((due_if n s.sender.gone _ x _ next).1 ∙ j.gone),
  lines_put s.out (stream.Data n x) p.wire j.packets,
  bytes_put a c s.out (stream.Data n x) sent j.bytes,
)

-- one that is outstanding goes out again
pub went_again : (b : Boot) (bag : MsgId → Option Message) (a c : ℕ) (s : Stream Message) (sent : List wire.Sent) (p : Pair) (k n : ℕ) (x : Message) → outstanding s.sender k ≡ Some (n, x) → Joined b bag a c s sent p
    → Joined b bag a c (with_out s (stream.Data n x)) (with_bytes a c sent (stream.Data n x)) (with_line p (Load.Data n))
went_again b bag a c s sent p k n x out j = search (
  subst (λ (z : Option (ℕ × Message)). order.StreamStands (goes_again s z)) out (StreamStands-happens s (GoAgain k) j.stream),
  j.gone ∙ gone_again n p.gone (let f : (n ≡ s.sender.acked + k) × (n < s.sender.gone) = grind (arith, nat_tests, due_if, nat_lt) in omega (arith, f.1, j.gone)),
  lines_put s.out (stream.Data n x) p.wire j.packets,
  bytes_put a c s.out (stream.Data n x) sent j.bytes,
)

-- data of the stream the other way
pub put_back : (b : Boot) (bag : MsgId → Option Message) (a c : ℕ) (s : Stream Message) (sent : List wire.Sent) (p : Pair) (n : ℕ) (x : Message) → Joined b bag a c s sent p → Joined b bag a c (with_back s (stream.Data n x)) sent p
put_back b bag a c s sent p n x j = search (StreamStands-happens s (OtherData n x) j.stream)

-- What a line of a pair leaves of the machines, of the other pairs and of the kernel with places.

-- a value that is set
module _ {X : Type 0} where
  pub at_here : (f : ℕ → X) (m : ℕ) (x : X) → at_machine f m x m ≡ x
  at_here f m x = ap (λ (t : Bool). if t then x else f m) (eq-eqb m m refl)

  pub at_other : (f : ℕ → X) (m : ℕ) (x : X) (d : ℕ) → (m == d) ≡ false → at_machine f m x d ≡ f d
  at_other f m x d e = ap (λ (t : Bool). if t then x else f d) e

  again_if : (t : Bool) (x y z : X) → (if t then y else if t then x else z) ≡ (if t then y else z)
  again_if t x y z = grind (arith, nat_tests)

  pub at_again : (f : ℕ → X) (m : ℕ) (x y : X) → at_machine (at_machine f m x) m y ≡ at_machine f m y
  at_again f m x y = λ i. λ d. again_if (m == d) x y (f d) i

  same_if : (f : ℕ → X) (m d : ℕ) (t : Bool) → (m == d) ≡ t → (if t then f m else f d) ≡ f d
  same_if f m d t e = grind (arith, nat_tests, eqb-true)

  -- set to what it was
  pub at_same : (f : ℕ → X) (m : ℕ) → at_machine f m (f m) ≡ f
  at_same f m = λ i. λ d. same_if f m d (m == d) refl i

  pub pair_here : (f : ℕ → ℕ → X) (a c : ℕ) (x : X) → at_pair f a c x a c ≡ x
  pair_here f a c x = ap (λ (t : Bool). if t && (c == c) then x else f a c) (eq-eqb a a refl) ∙ ap (λ (t : Bool). if t then x else f a c) (eq-eqb c c refl)

  pub pair_other : (f : ℕ → ℕ → X) (a c : ℕ) (x : X) (d e : ℕ) → ((a == d) && (c == e)) ≡ false → at_pair f a c x d e ≡ f d e
  pair_other f a c x d e is = ap (λ (t : Bool). if t then x else f d e) is

-- the point with this view, but for what machines know of processes and predecessors, rings, queues and held messages
abbrev pub with_view : Point → View → Point
with_view pt v = record pt { view = record v { known = pt.view.known; ring = pt.view.ring; queue = pt.view.queue; held = pt.view.held; preds = pt.view.preds; moves = pt.view.moves } }

module _ (b : Boot) (pt : Point) (l : Placed) (v : View) where
  -- the kernel with this inbox
  pub kernel_box : (m : ℕ) (k : KernelState) (box : List Message) → AreMessages l.bag (v.inbox m) box → KernelStands b pt l m k → KernelStands b (with_view pt v) l m (record k { inbox = box })
  kernel_box m k box e h = search (h.known, subst (RoomStands k.room (room_of (slice_get b.machines m))) (sym (taken_same pt (with_view pt v) m refl (λ n. refl) (λ p. refl))) h.room)

  pub kernel_same : (m : ℕ) (k : KernelState) → v.inbox m ≡ pt.view.inbox m → KernelStands b pt l m k → KernelStands b (with_view pt v) l m k
  kernel_same m k e h = kernel_box m k k.inbox (subst (λ (is : List MsgId). AreMessages l.bag is k.inbox) (sym e) h.inbox) h

  pub node_same : (m : ℕ) (n : NodeState) → v.inbox m ≡ pt.view.inbox m → (v.pair m m).ids ≡ (pt.view.pair m m).ids → NodeStands b pt l m n → NodeStands b (with_view pt v) l m n
  node_same m n e own h = search (kernel_same m n.kernel e h.kernel, h.home ∙ ap length (sym own))

  pub mirrors_same : Mirrors pt.kernel pt.view pt.addresses l → Mirrors pt.kernel (with_view pt v).view pt.addresses l
  mirrors_same h = record {
    plain = h.plain;
    places = record {
      process = λ p x there. (let k = h.places.process p x there in record { pid = k.pid; moves = k.moves; slots = k.slots; owner = k.owner });
      message = h.places.message;
      name = h.places.name;
      child = h.places.child;
      answer = h.places.answer;
      asker = h.places.asker;
      board = h.places.board;
      board_moves = h.places.board_moves;
      manager_moves = h.places.manager_moves;
    };
  }

  -- machine m has this state, and the others have theirs
  pub nodes_are : (m : ℕ) (f g : ℕ → NodeState) → ((d : ℕ) → (m == d) ≡ false → g d ≡ f d) → ((d : ℕ) → (m == d) ≡ false → v.inbox d ≡ pt.view.inbox d) → ((d : ℕ) → (m == d) ≡ false → (v.pair d d).ids ≡ (pt.view.pair d d).ids)
      → NodeStands b (with_view pt v) l m (g m) → (d : ℕ) → NodeStands b pt l d (f d) → NodeStands b (with_view pt v) l d (g d)
  nodes_are m f g others boxes own here d h = is d (m == d) refl h
    where
      is : (d : ℕ) (t : Bool) → (m == d) ≡ t → NodeStands b pt l d (f d) → NodeStands b (with_view pt v) l d (g d)
      is d true e h = subst (λ (z : ℕ). NodeStands b (with_view pt v) l z (g z)) (eqb-true m d e) here
      is d false e h = subst (λ (z : NodeState). NodeStands b (with_view pt v) l d z) (sym (others d e)) (node_same d (f d) (boxes d e) (own d e) h)

-- the pairs of m and c stand, and the others are as they were
pub pairs_are : (b : Boot) (pt next : Point) (l : Placed) (w after : WorldState) (h later : History) (m c : ℕ) → PairStands b next l after later m c → PairStands b next l after later c m
    → ((a d : ℕ) → ((m == a) && (c == d)) ≡ false → ((c == a) && (m == d)) ≡ false → Stays pt w h next after later a d) → (a d : ℕ) → PairStands b pt l w h a d → PairStands b next l after later a d
pairs_are b pt next l w after h later m c there back others a d s = is ((m == a) && (c == d)) ((c == a) && (m == d)) refl refl
  where
    is : (t u : Bool) → ((m == a) && (c == d)) ≡ t → ((c == a) && (m == d)) ≡ u → PairStands b next l after later a d
    is true u e f = let k = two_of m c a d e in subst (λ (z : ℕ). PairStands b next l after later z d) k.0 (subst (λ (z : ℕ). PairStands b next l after later m z) k.1 there)
    is false true e f = let k = two_of c m a d f in subst (λ (z : ℕ). PairStands b next l after later z d) k.0 (subst (λ (z : ℕ). PairStands b next l after later c z) k.1 back)
    is false false e f = pair_stays b pt next l w after h later a d (others a d e f) s

-- the messages of migrations under way carry the same, where nothing that they are read by changes
pub tokens_same : (v u : View) (l : Placed) (r s : AllRecords) → ((i : MsgId) → u.told i ≡ v.told i) → ((p : Pid) → u.asked p ≡ v.asked p) → ((n : ℕ) (p : Pid) → u.known n p ≡ v.known n p) → ((i : MsgId) (z : Spot) → standing u i z ≡ standing v i z) → ((d : ℕ) → s d ≡ r d)
    → TokensStand v l r → TokensStand u l s
tokens_same v u l r s told asked known spots records h =
    tokens_less v u l r s told asked known (λ n p. ap (λ (f : Pid → Option machine.KernelKnown). f p) (records n)) (λ i t z was between st. (z, subst (λ (n : ℕ). 1 ≤ n) (spots i z) st)) h
