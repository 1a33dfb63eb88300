-- What each event of a delivery makes of the world, and that it stands behind it.
use Rattle.dm_law_mirror.proofs.Names.{NodeStands, PairStands, Stream, TakeKept, View, after_packet, happens, stream_of, slice_get-map, option_map, ◌≡◌, ◌≢◌, ℕ, ◌+◌, ◌<◌, ◌≤◌, ◌==◌, ◌&&◌, Bool, true, false, List, [], ◌∷◌, ◌++◌, refl, ap, ◌∙◌}
use Rattle.dm_law_mirror.proofs.Names.{sym, subst, inl, inr, arith, if◌then◌else◌, slice_get, Option, Some, nat_tests, map-append, All-push, All-get_or, get_or_from_slice_get, slice_get_within, Message, MsgId, IsLawfulMessage, Packet, Line}
use Rattle.dm_law_mirror.proofs.Names.{Load, spelling, due, after_next, next, Data, Ack, just_put, after_mark, Boot, at_machine, at_pair, Pair, gone_after, oldest, times, Point, moved, Placed, with_message, with_receiver, with_sender}
use Rattle.dm_law_mirror.proofs.Names.{WorldState, AreMessages, History, StandsWith, zero, suc, length, is_some, None, length-map, Receiving, has, kept_from, taking_parts, taken_pair, NodeState, here, Sends, takes_kept, takes_next}
use Rattle.dm_law_mirror.proofs.Names.{then_acknowledges, ◌-◌, nat_le, nat_lt, drop, ◌⊎◌, slice_get_cases, slice_get_past, Sending, numbered, get-drop, less, numbers_from, repeats, before, lets_go, lets_next, message_id}
use Rattle.dm_node.proofs.Names.{with_sent}
use Rattle.dm_law_rule.proofs.Names.{Part}
use Rattle.dm_wire.specs.Wire.{after_put}
use Rattle.dm_wire.specs.Sent as wire
use Rattle.dm_law_rule.specs.Parts as rule
use Rattle.dm_law_rule.specs.View as view
use Rattle.dm_node.specs.Acts as node
use Rattle.dm_law_mirror.proofs.Deliver.Events.{acknowledges, kept_comes, message_is, other_acknowledges, after_next_is, next_is, off, has_off, less_test}
use Rattle.dm_law_mirror.proofs.Streams.{Joined, at_here, at_other, at_same, gone_next, joined, node_same, pair_here, pair_other}
use Rattle.dm_law_mirror.proofs.Puts.{point_put, same_senders, stands_put, wire_length, with_put, world_put}
use Rattle.dm_law_mirror.proofs.Giving.{due_stands}
use Rattle.dm_law_mirror.proofs.Deliver.Stands.{IsOther, Moves, moves_stand, Follows, Stood, nothing, says_on, sends_on, came_one, took_set, node_on, with_pairs}
pub use Rattle.dm_law_mirror.proofs.Puts.{ids_same as ids_set}

pub mark_same : (f : ℕ → ℕ → List wire.Sent) (a c k : ℕ) → after_mark f a c k a c ≡ wire.marked (f a c) k
mark_same f a c k = let e : ((a == a) && (c == c)) ≡ true = grind (arith, nat_tests) in ap (λ (t : Bool). if t then wire.marked (f a c) k else f a c) e

pub mark_other : (f : ℕ → ℕ → List wire.Sent) (a c k m n : ℕ) → IsOther a c m n → after_mark f a c k m n ≡ f m n
mark_other f a c k m n e = ap (λ (t : Bool). if t then wire.marked (f m n) k else f m n) e

-- the pair that leads back is another one
pub back_other : (a c : ℕ) → a ≢ c → IsOther a c c a
back_other a c apart = grind (arith, nat_tests)

pub there_other : (a c : ℕ) → a ≢ c → IsOther c a a c
there_other a c apart = grind (arith, nat_tests)

-- one more message of an inbox
pub messages_push : (bag : MsgId → Option Message) (ids : List MsgId) (ms : List Message) (i : MsgId) (m : Message) → AreMessages bag ids ms → bag i ≡ Some m → AreMessages bag (ids ++ i ∷ []) (ms ++ m ∷ [])
messages_push bag ids ms i m box is = map-append bag ids (i ∷ []) ∙ (λ j. box j ++ is j ∷ []) ∙ sym (map-append Some ms (m ∷ []))

-- the message of a pair that is taken next
pub record Taking (l : Placed) (p : Pair) (m : Message) : Type 0 where
  pub there : l.bag m.id ≡ Some m
  pub first : oldest p ≡ Some m.id
  pub lawful : IsLawfulMessage m

-- the message that is next to be taken
pub taking : (b : Boot) (l : Placed) (a c : ℕ) (x : Stream Message) (sent : List wire.Sent) (p : Pair) (m : Message) → slice_get x.given x.receiver.count ≡ Some m → Joined b l.bag a c x sent p → Taking l p m
taking b l a c x sent p m is h =
    let at : slice_get x.given p.taken ≡ Some m = ap (slice_get x.given) (sym h.taken) ∙ is in
    let first : slice_get p.ids p.taken ≡ Some m.id = ap (λ (xs : List MsgId). slice_get xs p.taken) (sym h.ids) ∙ slice_get-map message_id x.given p.taken ∙ ap (option_map message_id) at in
    search (
      message_is l.bag p.ids x.given p.taken m.id m h.untaken first at,
      subst IsLawfulMessage (get_or_from_slice_get x.given p.taken m m at) (All-get_or IsLawfulMessage x.given p.taken m (slice_get_within x.given p.taken m at) h.lawful),
    )

-- a message comes into the inbox of machine c, and the machine's streams are so then
pub node_takes : (b : Boot) (pt : Point) (l : Placed) (pair : ℕ → ℕ → Pair) (c : ℕ) (n : NodeState) (p : Pair) (m : Message) (ss : ℕ → Sending Message) (rs : ℕ → Receiving Message) → Taking l p m → (pair c c).ids ≡ (pt.view.pair c c).ids → NodeStands b pt l c n
    → NodeStands b (with_pairs pt pair (at_machine pt.view.inbox c (pt.view.inbox c ++ m.id ∷ []))) l c (record n { kernel = record n.kernel { inbox = n.kernel.inbox ++ m ∷ [] }; senders = ss; receivers = rs })
node_takes b pt l pair c n p m ss rs t ids h =
    node_on b pt l pair (at_machine pt.view.inbox c (pt.view.inbox c ++ m.id ∷ [])) c n (n.kernel.inbox ++ m ∷ []) ss rs
    (subst (λ (is : List MsgId). AreMessages l.bag is (n.kernel.inbox ++ m ∷ [])) (sym (at_here pt.view.inbox c (pt.view.inbox c ++ m.id ∷ []))) (messages_push l.bag (pt.view.inbox c) n.kernel.inbox m.id m h.kernel.inbox t.there))
    (All-push IsLawfulMessage n.kernel.inbox m h.lawful.inbox t.lawful) ids h

pub came_in : (v : View) (a c : ℕ) (m : Message) (i : MsgId) → oldest (v.pair a c) ≡ Some m.id → 1 ≤ times i (at_machine v.inbox c (v.inbox c ++ m.id ∷ []) c) → Stood v i
came_in v a c m i first least = came_one v a c m.id i first (subst (λ (ids : List MsgId). 1 ≤ times i ids) (at_here v.inbox c (v.inbox c ++ m.id ∷ [])) least)

module _ (b : Boot) (w : WorldState) (pt : Point) (l : Placed) (h : History) (a c : ℕ) (s : StandsWith b w pt l h) (a_in : a < pt.kernel.machines) (c_in : c < pt.kernel.machines) (apart : a ≢ c) where
  pub there_joined : Joined b l.bag a c (stream_of w h a c) (w.wires a c) (pt.view.pair a c)
  there_joined = joined b pt l w h a c (s.pairs a c a_in c_in apart)

  pub back_joined : Joined b l.bag c a (stream_of w h c a) (w.wires c a) (pt.view.pair c a)
  back_joined = joined b pt l w h c a (s.pairs c a c_in a_in (λ e. apart (sym e)))

  -- a message that is kept is taken
  pub kept_stands : (m : Message) → next ((w.nodes c).receivers a) ≡ Some m → StandsWith b (record w { nodes = at_machine w.nodes c (with_message (with_receiver (w.nodes c) a (after_next ((w.nodes c).receivers a))) m) }) (moved pt (Line.Taken a c ((w.nodes c).receivers a).count) pt.kernel) l h
  kept_stands m e =
      let r : Receiving Message = (w.nodes c).receivers a in
      let p : Pair = record (pt.view.pair a c) { taken = (pt.view.pair a c).taken + 1; kept = off r.count (pt.view.pair a c).kept } in
      let f : ℕ → ℕ → Pair = at_pair pt.view.pair a c p in
      let t : Taking l (pt.view.pair a c) m = taking b l a c (stream_of w h a c) (w.wires a c) (pt.view.pair a c) m (there_joined.stream.in_order.kept r.count m (sym (next_is r) ∙ e)) there_joined in
      let inbox : ℕ → List MsgId = at_machine pt.view.inbox c (pt.view.inbox c ++ m.id ∷ []) in
      let k : Moves b w pt l h a c (with_message (with_receiver (w.nodes c) a (after_next r)) m) w.wires h.packets f inbox (happens (stream_of w h a c) TakeKept) (w.wires a c) p (stream_of w h c a) (w.wires c a) (pt.view.pair c a) = record {
        pairs = λ x y t k. pair_other pt.view.pair a c p x y t;
        ids = ids_set pt.view.pair a c p refl;
        took = took_set pt.view.pair a c p (omega arith);
        came = λ i least. came_in pt.view a c m i t.first least;
        node = node_takes b pt l f c (w.nodes c) (pt.view.pair a c) m (w.nodes c).senders (at_machine (w.nodes c).receivers a (after_next r)) t (ids_set pt.view.pair a c p refl c c) (s.nodes c c_in);
        there_stands = kept_comes b l.bag a c (stream_of w h a c) (w.wires a c) (pt.view.pair a c) m e there_joined;
        back_stands = back_joined;
        alone = search (at_here, at_other, pair_here, pair_other, back_other a c apart);
      } in
      subst (λ (v : View). StandsWith b (record w { nodes = at_machine w.nodes c (with_message (with_receiver (w.nodes c) a (after_next r)) m) }) (record pt { view = v }) l h) (ap (view.taken_id (view.with_pair pt.view a c p) c) (sym t.first))
      (moves_stand b w pt l h a c (with_message (with_receiver (w.nodes c) a (after_next r)) m) w.wires h.packets f inbox (happens (stream_of w h a c) TakeKept) (w.wires a c) p (stream_of w h c a) (w.wires c a) (pt.view.pair c a) k s apart)

  -- what was taken is acknowledged
  pub acknowledged_stands : StandsWith b (world_put w c a (at_machine w.nodes c (w.nodes c)) (Ack ((w.nodes c).receivers a).count)) (point_put pt c a (Ack ((w.nodes c).receivers a).count)) l (with_put h c a (Ack ((w.nodes c).receivers a).count))
  acknowledged_stands =
      let n : ℕ = ((w.nodes c).receivers a).count in
      subst (λ (f : ℕ → NodeState). StandsWith b (world_put w c a f (Ack n)) (point_put pt c a (Ack n)) l (with_put h c a (Ack n))) (sym (at_same w.nodes c))
      (stands_put b pt l w h c a w.nodes ((w.nodes c).senders a) (Ack n) (λ e. apart (sym e)) (same_senders w c a) (λ d e. refl) (λ d. refl)
      (node_same b pt l (after_packet pt.view c a (Load.Ack n)) c (w.nodes c) refl (ids_set pt.view.pair c a _ refl c c) (s.nodes c c_in))
      (other_acknowledges b l.bag c a (stream_of w h c a) (w.wires c a) (pt.view.pair c a) n back_joined) (acknowledges b l.bag a c (stream_of w h a c) (w.wires a c) (pt.view.pair a c) there_joined) s)

-- The messages that were kept are taken once their turn has come, and all that was taken is acknowledged.

module _ (b : Boot) (l : Placed) (a c : ℕ) (apart : a ≢ c) where
  -- what was taken is acknowledged, and nothing more
  pub acknowledged : (w : WorldState) (pt : Point) (h : History) (s : StandsWith b w pt l h) (a_in : a < pt.kernel.machines) (c_in : c < pt.kernel.machines) (k : ℕ) → k ≡ ((w.nodes c).receivers a).count
      → Follows b c w pt l (record { state = w.nodes c; outs = node.acknowledges (w.nodes c) a }) (rule.Transmits c a (Load.Ack k) ∷ [])
  acknowledged w pt h s a_in c_in k e =
      let count : ℕ = ((w.nodes c).receivers a).count in
      let q : Point = moved pt (rule.packet_line pt.view c a (Load.Ack count)) pt.kernel in
      let v : WorldState = record w { nodes = at_machine w.nodes c (w.nodes c); wires = after_put w.wires c a (spelling (Packet.Ack c a count)) } in
      let g : History = record h { packets = at_pair h.packets c a (h.packets c a ++ just_put (Ack count) ∷ []) } in
      let on : StandsWith b v q l g = acknowledged_stands b w pt l h a c s a_in c_in apart in
      let long : length (w.wires c a) ≡ length (pt.view.pair c a).wire = wire_length b pt l w h c a (s.pairs c a c_in a_in (λ e. apart (sym e))) in
      let last : Follows b c v q l (record { state = w.nodes c; outs = [] }) [] = nothing b c v q l g (w.nodes c) (at_here w.nodes c (w.nodes c)) on in
      let whole : Follows b c w pt l (record { state = w.nodes c; outs = Sends (Packet.Ack c a count) ∷ [] }) (rule.Transmits c a (Load.Ack count) ∷ []) =
      sends_on b c w pt q l (w.nodes c) (Packet.Ack c a count) c a (Load.Ack count) (record { state = w.nodes c; outs = [] }) [] (λ i. Line.Packet c a (long i) (Load.Ack count)) refl last in
      let at_here : Follows b c w pt l (record { state = w.nodes c; outs = Sends (Packet.Ack (here (w.nodes c)) a count) ∷ [] }) (rule.Transmits c a (Load.Ack count) ∷ []) =
      subst (λ (z : ℕ). Follows b c w pt l (record { state = w.nodes c; outs = Sends (Packet.Ack z a count) ∷ [] }) (rule.Transmits c a (Load.Ack count) ∷ [])) (sym (s.nodes c c_in).kernel.here) whole in
      subst (λ (z : ℕ). Follows b c w pt l (record { state = w.nodes c; outs = node.acknowledges (w.nodes c) a }) (rule.Transmits c a (Load.Ack z) ∷ [])) (sym e) at_here

  -- what the parts are: those that take what was kept from m on, and the acknowledgement
  abbrev pub taken_parts : List ℕ → ℕ → ℕ → List Part
  taken_parts ks m fuel = taking_parts a c (kept_from ks m fuel) ++ rule.Transmits c a (Load.Ack (m + length (kept_from ks m fuel))) ∷ []

  no_more : (w : WorldState) (pt : Point) (h : History) (s : StandsWith b w pt l h) (a_in : a < pt.kernel.machines) (c_in : c < pt.kernel.machines) (ks : List ℕ) (m fuel : ℕ) → m ≡ ((w.nodes c).receivers a).count → kept_from ks m fuel ≡ []
      → Follows b c w pt l (record { state = w.nodes c; outs = node.acknowledges (w.nodes c) a }) (taken_parts ks m fuel)
  no_more w pt h s a_in c_in ks m fuel e none =
      let f : Follows b c w pt l (record { state = w.nodes c; outs = node.acknowledges (w.nodes c) a }) (rule.Transmits c a (Load.Ack (m + 0)) ∷ []) = acknowledged w pt h s a_in c_in (m + 0) (omega (arith, e)) in
      subst (λ (ns : List ℕ). Follows b c w pt l (record { state = w.nodes c; outs = node.acknowledges (w.nodes c) a }) (taking_parts a c ns ++ rule.Transmits c a (Load.Ack (m + length ns)) ∷ [])) (sym none) f

  -- the number that is next is kept where a message is
  has_next : (w : WorldState) (pt : Point) (h : History) (s : StandsWith b w pt l h) (a_in : a < pt.kernel.machines) (c_in : c < pt.kernel.machines) (ks : List ℕ) (m : ℕ) → m ≡ ((w.nodes c).receivers a).count → has m ks ≡ has m (pt.view.pair a c).kept
      → has m ks ≡ is_some (next ((w.nodes c).receivers a))
  has_next w pt h s a_in c_in ks m e same = grind (arith, nat_tests, is_some, next_is)

  pub kept_after : (f : ℕ → ℕ → Pair) (m : ℕ) (ks : List ℕ) → ((i : ℕ) → m ≤ i → has i ks ≡ has i (f a c).kept) → (i : ℕ) → m + 1 ≤ i → has i ks ≡ has i (off m (f a c).kept)
  kept_after f m ks same i le = grind (arith, nat_tests, has_off)

  -- so many messages that are kept are taken, from any world that stands
  abbrev pub TakesFollow : ℕ → Type 0
  TakesFollow fuel =
      (w : WorldState) (pt : Point) (h : History) (s : StandsWith b w pt l h) (a_in : a < pt.kernel.machines) (c_in : c < pt.kernel.machines) (ks : List ℕ) (m : ℕ) → m ≡ ((w.nodes c).receivers a).count
      → ((i : ℕ) → m ≤ i → has i ks ≡ has i (pt.view.pair a c).kept) → Follows b c w pt l (then_acknowledges (takes_kept fuel (w.nodes c) a) a) (taken_parts ks m fuel)

  -- one that is there is taken, and the rest from there
  takes_one : (fuel : ℕ) (w : WorldState) (pt : Point) (h : History) (s : StandsWith b w pt l h) (a_in : a < pt.kernel.machines) (c_in : c < pt.kernel.machines) (ks : List ℕ) (m : ℕ) → m ≡ ((w.nodes c).receivers a).count
      → ((i : ℕ) → m ≤ i → has i ks ≡ has i (pt.view.pair a c).kept) → (x : Message) → next ((w.nodes c).receivers a) ≡ Some x → TakesFollow fuel
      → Follows b c w pt l (then_acknowledges (takes_next (w.nodes c) a (Some x) (λ n. takes_kept fuel n a)) a) (taken_parts ks m (suc fuel))
  takes_one fuel w pt h s a_in c_in ks m e same x some on =
      let r : Receiving Message = (w.nodes c).receivers a in
      let found : has m ks ≡ true = has_next w pt h s a_in c_in ks m e (same m (omega arith)) ∙ ap (λ (o : Option Message). is_some o) some in
      let n : NodeState = with_message (with_receiver (w.nodes c) a (after_next r)) x in
      let v : WorldState = record w { nodes = at_machine w.nodes c n } in
      let q : Point = moved pt (Line.Taken a c m) pt.kernel in
      let stands : StandsWith b v q l h = subst (λ (i : ℕ). StandsWith b v (moved pt (Line.Taken a c i) pt.kernel) l h) (sym e) (kept_stands b w pt l h a c s a_in c_in apart x some) in
      let set : v.nodes c ≡ n = at_here w.nodes c n in
      let count : m + 1 ≡ ((v.nodes c).receivers a).count =
      ap (λ (i : ℕ). i + 1) e ∙ sym (ap (λ (z : NodeState). (z.receivers a).count) set ∙ ap (λ (z : Receiving Message). z.count) (at_here (w.nodes c).receivers a (after_next r) ∙ after_next_is r x some)) in
      let p : Pair = record (pt.view.pair a c) { taken = (pt.view.pair a c).taken + 1; kept = off m (pt.view.pair a c).kept } in
      let now : q.view.pair a c ≡ p = ap (λ (f : ℕ → ℕ → Pair). f a c) (taken_pair (view.with_pair pt.view a c p) c (oldest (pt.view.pair a c))) ∙ pair_here pt.view.pair a c p in
      let later : (i : ℕ) → m + 1 ≤ i → has i ks ≡ has i (q.view.pair a c).kept = λ i le. kept_after pt.view.pair m ks same i le ∙ ap (λ (z : Pair). has i z.kept) (sym now) in
      let rest : Follows b c v q l (then_acknowledges (takes_kept fuel (v.nodes c) a) a) (taken_parts ks (m + 1) fuel) = on v q h stands a_in c_in ks (m + 1) count later in
      let rest_here : Follows b c v q l (then_acknowledges (takes_kept fuel n a) a) (taken_parts ks (m + 1) fuel) = subst (λ (z : NodeState). Follows b c v q l (then_acknowledges (takes_kept fuel z a) a) (taken_parts ks (m + 1) fuel)) set rest in
      let same_line : Line.Taken a (here (w.nodes c)) r.count ≡ Line.Taken a c m = λ i. Line.Taken a ((s.nodes c c_in).kernel.here i) (sym e i) in
      let others : List ℕ = kept_from ks (m + 1) fuel in
      let whole : Follows b c w pt l (then_acknowledges (takes_next (w.nodes c) a (Some x) (λ n. takes_kept fuel n a)) a) (rule.Says (Line.Taken a c m) ∷ taken_parts ks (m + 1) fuel) =
      says_on b c w pt q l n (Line.Taken a (here (w.nodes c)) r.count) (Line.Taken a c m) (then_acknowledges (takes_kept fuel n a) a) (taken_parts ks (m + 1) fuel) same_line refl rest_here in
      let long : m + 1 + length others ≡ m + length (m ∷ others) = omega arith in
      let whole_long = subst (λ (i : ℕ). Follows b c w pt l (then_acknowledges (takes_next (w.nodes c) a (Some x) (λ n. takes_kept fuel n a)) a) (taking_parts a c (m ∷ others) ++ rule.Transmits c a (Load.Ack i) ∷ [])) long whole in
      subst (λ (t : Bool). Follows b c w pt l (then_acknowledges (takes_next (w.nodes c) a (Some x) (λ n. takes_kept fuel n a)) a) (taking_parts a c (if t then m ∷ others else []) ++ rule.Transmits c a (Load.Ack (m + length (if t then m ∷ others else []))) ∷ [])) (sym found) whole_long

  takes_by : (fuel : ℕ) (w : WorldState) (pt : Point) (h : History) (s : StandsWith b w pt l h) (a_in : a < pt.kernel.machines) (c_in : c < pt.kernel.machines) (ks : List ℕ) (m : ℕ) → m ≡ ((w.nodes c).receivers a).count
      → ((i : ℕ) → m ≤ i → has i ks ≡ has i (pt.view.pair a c).kept) → (o : Option Message) → next ((w.nodes c).receivers a) ≡ o → TakesFollow fuel
      → Follows b c w pt l (then_acknowledges (takes_next (w.nodes c) a o (λ n. takes_kept fuel n a)) a) (taken_parts ks m (suc fuel))
  takes_by fuel w pt h s a_in c_in ks m e same None none on =
      let lacks : has m ks ≡ false = has_next w pt h s a_in c_in ks m e (same m (omega arith)) ∙ ap (λ (o : Option Message). is_some o) none in
      no_more w pt h s a_in c_in ks m (suc fuel) e (ap (λ (t : Bool). if t then m ∷ kept_from ks (m + 1) fuel else []) lacks)
  takes_by fuel w pt h s a_in c_in ks m e same (Some x) some on = takes_one fuel w pt h s a_in c_in ks m e same x some on

  pub takes_follow : (fuel : ℕ) → TakesFollow fuel
  unfolding takes_kept
  takes_follow zero w pt h s a_in c_in ks m e same = no_more w pt h s a_in c_in ks m zero e refl
  takes_follow (suc fuel) w pt h s a_in c_in ks m e same = takes_by fuel w pt h s a_in c_in ks m e same (next ((w.nodes c).receivers a)) refl (takes_follow fuel)

-- The messages that wait go out, as many as the window has room for.

-- how many messages of a pair may go out
abbrev pub room_of : Pair → ℕ
room_of p = less (length p.ids - p.gone) (p.acked + 8 - p.gone)

room_less : (i g a j : ℕ) → suc j ≡ less (i - g) (a + 8 - g) → (j ≡ less (i - (g + 1)) (a + 8 - (g + 1))) × (g < i) × (g < a + 8)
room_less i g a j e = (grind (arith, nat_tests), grind (arith, nat_tests), grind (arith, nat_tests))

room_none : (i g a : ℕ) → 0 ≡ less (i - g) (a + 8 - g) → (i ≤ g) ⊎ (a + 8 ≤ g)
room_none i g a e = grind (arith, nat_tests, nat_le)

-- the message under this number is due
pub given_at : (xs : List Message) (n : ℕ) → n < length xs → (m : Message) × (slice_get xs n ≡ Some m)
given_at xs n lt = elim (slice_get_cases xs n).1 [ inl k ↦ (k.0, k.2) | inr k ↦ absurd (omega (arith, k.0)) ]

waits_at : (s : Sending Message) (given : List Message) → s.unacked ≡ drop s.acked given → s.acked ≤ s.gone → slice_get s.unacked (s.gone - s.acked) ≡ slice_get given s.gone
waits_at s given e le = ap (λ (xs : List Message). slice_get xs (s.gone - s.acked)) e ∙ get-drop s.acked given (s.gone - s.acked) s.gone (omega arith)

due_is : (s : Sending Message) (given : List Message) (m : Message) → s.unacked ≡ drop s.acked given → s.acked ≤ s.gone → s.gone < s.acked + 8 → slice_get given s.gone ≡ Some m → due s ≡ Some (s.gone, m)
due_is s given m e le lt is = grind (arith, nat_tests, slice_get, less_test, waits_at)

either_none : {X : Type 0} (t : Bool) (o : Option X) → o ≡ None → (if t then o else None) ≡ None
either_none t o e = grind (arith, nat_tests)

due_none : (s : Sending Message) (given : List Message) → s.unacked ≡ drop s.acked given → s.acked ≤ s.gone → (length given ≤ s.gone) ⊎ (s.acked + 8 ≤ s.gone) → due s ≡ None
due_none s given e le (inl all) =
    either_none (nat_lt s.gone (s.acked + 8)) (numbered s.gone (slice_get s.unacked (s.gone - s.acked))) (ap (numbered s.gone) (waits_at s given e le ∙ slice_get_past given s.gone all))
due_none s given e le (inr full) = ap (λ (t : Bool). if t then numbered s.gone (slice_get s.unacked (s.gone - s.acked)) else None) (let e_ : nat_lt s.gone (s.acked + 8) ≡ false = grind (arith, nat_tests) in e_)

module _ (b : Boot) (l : Placed) (a c : ℕ) (apart : a ≢ c) where
  -- so many messages go out, from any world that stands
  abbrev pub LetsFollow : ℕ → Type 0
  LetsFollow fuel =
      (w : WorldState) (pt : Point) (h : History) (s : StandsWith b w pt l h) (a_in : a < pt.kernel.machines) (c_in : c < pt.kernel.machines) (j : ℕ) → j ≡ room_of (pt.view.pair c a) → j ≤ fuel
      → Follows b c w pt l (lets_go fuel (w.nodes c) a) (repeats c a (numbers_from (pt.view.pair c a).gone j))

  -- what waits of the stream to machine a
  record Waits (w : WorldState) (pt : Point) (h : History) : Type 0 where
    unacked : ((w.nodes c).senders a).unacked ≡ drop ((w.nodes c).senders a).acked (h.given c a)
    acked_gone : ((w.nodes c).senders a).acked ≤ ((w.nodes c).senders a).gone
    ids : length (pt.view.pair c a).ids ≡ length (h.given c a)
    gone : ((w.nodes c).senders a).gone ≡ (pt.view.pair c a).gone
    acked : ((w.nodes c).senders a).acked ≡ (pt.view.pair c a).acked
    wire : length (w.wires c a) ≡ length (pt.view.pair c a).wire

  waits : (w : WorldState) (pt : Point) (h : History) (s : StandsWith b w pt l h) (a_in : a < pt.kernel.machines) (c_in : c < pt.kernel.machines) → Waits w pt h
  waits w pt h s a_in c_in =
      let k : PairStands b pt l w h c a = s.pairs c a c_in a_in (λ e. apart (sym e)) in
      record {
        unacked = k.stream.in_order.unacked;
        acked_gone = omega (arith, k.stream.in_order.acked_taken, k.stream.in_order.taken_gone);
        ids = ap length (sym k.ids) ∙ length-map (h.given c a) message_id;
        gone = k.gone;
        acked = k.acked;
        wire = wire_length b pt l w h c a k;
      }

  lets_none : (fuel : ℕ) (w : WorldState) (pt : Point) (h : History) (s : StandsWith b w pt l h) (a_in : a < pt.kernel.machines) (c_in : c < pt.kernel.machines) → 0 ≡ room_of (pt.view.pair c a)
      → Follows b c w pt l (lets_next (w.nodes c) a (due ((w.nodes c).senders a)) (λ n. lets_go fuel n a)) []
  lets_none fuel w pt h s a_in c_in e =
      let k : Waits w pt h = waits w pt h s a_in c_in in
      let sender : Sending Message = (w.nodes c).senders a in
      let none : due sender ≡ None = due_none sender (h.given c a) k.unacked k.acked_gone (elim (room_none (length (pt.view.pair c a).ids) (pt.view.pair c a).gone (pt.view.pair c a).acked e) [
        | inl all ↦ inl (omega (arith, all, k.ids, k.gone))
        | inr full ↦ inr (omega (arith, full, k.acked, k.gone))
      ]) in
      subst (λ (o : Option (ℕ × Message)). Follows b c w pt l (lets_next (w.nodes c) a o (λ n. lets_go fuel n a)) []) (sym none) (nothing b c w pt l h (w.nodes c) refl s)

  lets_one : (fuel : ℕ) (w : WorldState) (pt : Point) (h : History) (s : StandsWith b w pt l h) (a_in : a < pt.kernel.machines) (c_in : c < pt.kernel.machines) (j : ℕ) → suc j ≡ room_of (pt.view.pair c a) → j ≤ fuel → LetsFollow fuel
      → Follows b c w pt l (lets_next (w.nodes c) a (due ((w.nodes c).senders a)) (λ n. lets_go fuel n a)) (repeats c a (numbers_from (pt.view.pair c a).gone (suc j)))
  lets_one fuel w pt h s a_in c_in j e le on =
      let k : Waits w pt h = waits w pt h s a_in c_in in
      let sender : Sending Message = (w.nodes c).senders a in
      let back : Pair = pt.view.pair c a in
      let room = room_less (length back.ids) back.gone back.acked j e in
      let (m, is) = given_at (h.given c a) sender.gone (omega (arith, room.1, k.ids, k.gone)) in
      let n : ℕ = sender.gone in
      let goes : due sender ≡ Some (n, m) = due_is sender (h.given c a) m k.unacked k.acked_gone (omega (arith, room.2, k.acked, k.gone)) is in
      let next : NodeState = with_sender (w.nodes c) a (with_sent sender) in
      let q : Point = moved pt (rule.packet_line pt.view c a (Load.Data n)) pt.kernel in
      let v : WorldState = record w { nodes = at_machine w.nodes c next; wires = after_put w.wires c a (spelling (Packet.Data c a n m)) } in
      let g : History = record h { packets = at_pair h.packets c a (h.packets c a ++ just_put (Data n m) ∷ []) } in
      let stands : StandsWith b v q l g = due_stands b pt l w h c a n m (λ e. apart (sym e)) c_in a_in goes s in
      let p : Pair = record back { gone = gone_after (Load.Data n) back.gone; wire = back.wire ++ record { load = Load.Data n; delivered = false } ∷ [] } in
      let now : q.view.pair c a ≡ p = pair_here pt.view.pair c a p in
      let gone : p.gone ≡ back.gone + 1 = sym (gone_next n back.gone k.gone) in
      let left : j ≡ room_of (q.view.pair c a) = room.0 ∙ ap (λ (i : ℕ). less (length back.ids - i) (back.acked + 8 - i)) (sym gone) ∙ sym (ap room_of now) in
      let rest : Follows b c v q l (lets_go fuel (v.nodes c) a) (repeats c a (numbers_from (q.view.pair c a).gone j)) = on v q g stands a_in c_in j left le in
      let rest_here : Follows b c v q l (lets_go fuel next a) (repeats c a (numbers_from (q.view.pair c a).gone j)) = subst (λ (z : NodeState). Follows b c v q l (lets_go fuel z a) (repeats c a (numbers_from (q.view.pair c a).gone j))) (at_here w.nodes c next) rest in
      let rest_from : Follows b c v q l (lets_go fuel next a) (repeats c a (numbers_from (back.gone + 1) j)) = subst (λ (i : ℕ). Follows b c v q l (lets_go fuel next a) (repeats c a (numbers_from i j))) (ap (λ (z : Pair). z.gone) now ∙ gone) rest_here in
      let whole = sends_on b c w pt q l next (Packet.Data c a n m) c a (Load.Data n) (lets_go fuel next a) (repeats c a (numbers_from (back.gone + 1) j)) (λ i. Line.Packet c a (k.wire i) (Load.Data n)) refl rest_from in
      let at_here = subst (λ (i : ℕ). Follows b c w pt l (before (Sends (Packet.Data i a n m) ∷ []) (lets_go fuel next a)) (rule.Transmits c a (Load.Data n) ∷ repeats c a (numbers_from (back.gone + 1) j))) (sym (s.nodes c c_in).kernel.here) whole in
      let named = subst (λ (i : ℕ). Follows b c w pt l (before (Sends (Packet.Data (here (w.nodes c)) a n m) ∷ []) (lets_go fuel next a)) (rule.Transmits c a (Load.Data i) ∷ repeats c a (numbers_from (back.gone + 1) j))) k.gone at_here in
      subst (λ (o : Option (ℕ × Message)). Follows b c w pt l (lets_next (w.nodes c) a o (λ n. lets_go fuel n a)) (repeats c a (numbers_from back.gone (suc j)))) (sym goes) named

  pub lets_follow : (fuel : ℕ) → LetsFollow fuel
  unfolding lets_go
  lets_follow zero w pt h s a_in c_in zero e le = nothing b c w pt l h (w.nodes c) refl s
  lets_follow zero w pt h s a_in c_in (suc j) e le = absurd (omega arith)
  lets_follow (suc fuel) w pt h s a_in c_in zero e le = lets_none fuel w pt h s a_in c_in e
  lets_follow (suc fuel) w pt h s a_in c_in (suc j) e le = lets_one fuel w pt h s a_in c_in j e (omega arith) (lets_follow fuel)
