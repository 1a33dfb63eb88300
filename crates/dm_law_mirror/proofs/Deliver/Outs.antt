-- Where what a machine sends is read as it was put, so is all that it has out and not acknowledged, and each packet on the wires
-- is read: each event keeps it.
use Rattle.dm_law_mirror.proofs.Names.{MayCome-stands, NodeStands, Receiving, begins, has, stream_of, two_of, ◌≡◌, ◌⊎◌, ℕ, zero, suc, ◌==◌, ◌&&◌, Bool, true, false, List, [], ◌∷◌, ◌++◌, refl, ap, ◌∙◌, sym, subst, inl, inr, ⊤, if◌then◌else◌}
use Rattle.dm_law_mirror.proofs.Names.{Option, None, Some, eqb_tells, Message, Packet, packet_of, spelling, Data, Ack, Sending, due, window, with_acked, with_given, after_arrival, after_next, arrival, next, Arrived, Sent, bytes_at, after_mark}
use Rattle.dm_law_mirror.proofs.Names.{Turned, Out, NodeState, here, with_message, with_receiver, with_sender, Acted, Acts, Goes, Worn, then_, acts, comes_in, gives, is_worn, lets_go, lets_next, none_waits, routes, routes_away, routes_home}
use Rattle.dm_law_mirror.proofs.Names.{sends_due, takes_kept, takes_next, FitsLoad, spoken, with_packet, AreReadBack, NodeReads, SenderReads, WiresRead, ◌+◌, nat_lt, arith, fresh_sending, Boot, Step, tick, WorldState, acted, first_world}
use Rattle.dm_law_mirror.proofs.Names.{IsReadable, ◌-◌, ◌<◌, ◌≤◌, length, slice_get, cases_Bool, nat_tests, length-append, length-drop, slice_get_within, numbered, outstanding, get-drop, ◌≢◌, MsgId, advanced, kept_once, load_at, Line}
use Rattle.dm_law_mirror.proofs.Names.{at_machine, at_pair, NothingElse, Pair, at_least, oldest, Inbox, times, Point, moved, Placed, History, StandsWith, marked, Part, Ok, none_some}
use Rattle.dm_stream.specs.Stream as flow
use Rattle.dm_node.proofs.Names.{with_sent}
use Rattle.dm_node.proofs.Names.{behind}
use Rattle.dm_stream.specs.Packets.{Load}
use Rattle.dm_stream.specs.declared.receiver.Arrived.TheVariants.{Taken}
use Rattle.dm_wire.specs.Wire.{after_put}
use Rattle.dm_node.specs.Acts.{arrives}
use Rattle.dm_wire.specs.Sent as wire
use Rattle.dm_law_rule.specs.View as view
use Rattle.dm_law_mirror.proofs.Streams.{Joined, at_here, at_other, pair_here, pair_other}
use Rattle.dm_law_mirror.proofs.Puts.{stands_begins}
use Rattle.dm_law_mirror.proofs.Deliver.Stands.{Stood, moves_stand, node_on, took_set, with_pairs}
use Rattle.dm_law_mirror.proofs.Deliver.Events.{less_test, acked_comes, back_comes, data_comes, other_comes, untaken_next, kept_early, kept_taken, after_early_is, after_old_is, after_taken_is, off}
use Rattle.dm_law_mirror.proofs.Deliver.Moves.{Taking, back_joined, back_other, came_in, ids_set, mark_other, mark_same, node_takes, taking, there_joined, there_other}

-- an outstanding message, by its place
record IsOut (s : Sending Message) (j n : ℕ) (m : Message) : Type 0 where
  number : n ≡ s.acked + j
  below : s.acked + j < s.gone
  there : slice_get s.unacked j ≡ Some m

-- what a test lets through
record Through (test : Bool) (number : ℕ) (o : Option Message) (n : ℕ) (m : Message) : Type 0 where
  on : test ≡ true
  is : n ≡ number
  there : o ≡ Some m

through : (t : Bool) (k : ℕ) (o : Option Message) (n : ℕ) (m : Message) → (if t then numbered k o else None) ≡ Some (n, m) → Through t k o n m
through t k o n m e = record { on = grind (arith, nat_tests); is = grind (arith, nat_tests); there = grind (arith, nat_tests) }

is_out : (s : Sending Message) (j n : ℕ) (m : Message) → outstanding s j ≡ Some (n, m) → IsOut s j n m
is_out s j n m e =
    let t = through (nat_lt (s.acked + j) s.gone) (s.acked + j) (slice_get s.unacked j) n m e in
    let on = t.on in
    record { number = t.is; below = grind (arith, nat_tests); there = t.there }

outstanding_at : (s : Sending Message) (j n : ℕ) (m : Message) → IsOut s j n m → outstanding s j ≡ Some (n, m)
outstanding_at s j n m h = grind (arith, nat_tests, slice_get, less_test)

get_front : {X : Type 0} (xs ys : List X) (j : ℕ) → j < length xs → slice_get (xs ++ ys) j ≡ slice_get xs j
get_front [] ys j lt = absurd (omega arith)
get_front (x ∷ xs) ys zero lt = refl
get_front (x ∷ xs) ys (suc j) lt = get_front xs ys j (omega arith)

-- one more message is given
pub given_reads : (a c : ℕ) (s : Sending Message) (x : Message) → SenderReads a c s → SenderReads a c (with_given s x)
given_reads a c s x h = record {
  acked = h.acked;
  gone = let f = h.gone in omega (arith, length-append s.unacked (x ∷ []));
  out = λ j n m e.
      let o = is_out (with_given s x) j n m e in
      let within : j < length s.unacked = omega (arith, o.below, h.gone) in
      h.out j n m (outstanding_at s j n m (record { number = o.number; below = o.below; there = sym (get_front s.unacked (x ∷ []) j within) ∙ o.there }));
}

-- the message that is due goes out, and is read as it was put
pub sent_reads : (a c : ℕ) (s : Sending Message) (k : ℕ) (x : Message) → due s ≡ Some (k, x) → packet_of (spelling (Packet.Data a c k x)) ≡ Ok (Packet.Data a c k x) → SenderReads a c s → SenderReads a c (with_sent s)
sent_reads a c s k x is read h =
    let t = through (nat_lt s.gone (s.acked + 8)) s.gone (slice_get s.unacked (s.gone - s.acked)) k x is in
    record {
      acked = let f = h.acked in omega arith;
      gone = let f = slice_get_within s.unacked (s.gone - s.acked) x t.there in let g = h.acked in omega arith;
      out = λ j n m e.
          let o = is_out (with_sent s) j n m e in
          elim (cases_Bool (nat_lt (s.acked + j) s.gone)) [
            | inl on ↦ h.out j n m (outstanding_at s j n m (record { number = o.number; below = grind (arith, nat_tests); there = o.there }))
            | inr off ↦
                let last : s.acked + j ≡ s.gone = (let f : s.acked + j < s.gone + 1 = o.below in grind (arith, nat_tests)) in
                let same : n ≡ k = o.number ∙ last ∙ sym t.is in
                let f : Some m ≡ Some x = sym o.there ∙ (ap (slice_get s.unacked) (omega (arith, last)) ∙ t.there) in
                let one : m ≡ x = cc in
                subst (λ (y : Message). packet_of (spelling (Packet.Data a c n y)) ≡ Ok (Packet.Data a c n y)) (sym one) (subst (λ (i : ℕ). packet_of (spelling (Packet.Data a c i x)) ≡ Ok (Packet.Data a c i x)) (sym same) read)
          ];
    }

-- what is acknowledged isn't out any more
pub acked_reads : (a c : ℕ) (s : Sending Message) (k : ℕ) → k ≤ s.gone → SenderReads a c s → SenderReads a c (with_acked s k)
acked_reads a c s k le h = record {
  acked = let f = h.acked in omega arith;
  gone = let f = h.gone in let g = h.acked in omega (arith, length-drop (k - s.acked) s.unacked);
  out = λ j n m e.
      let o = is_out (with_acked s k) j n m e in
      let at : slice_get s.unacked (k - s.acked + j) ≡ Some m = sym (get-drop (k - s.acked) s.unacked j (k - s.acked + j) refl) ∙ o.there in
      h.out (k - s.acked + j) n m (outstanding_at s (k - s.acked + j) n m (record { number = omega (arith, o.number); below = omega (arith, o.below); there = at }));
}

-- Where all packets that an event sends are read as they were put, what the machine has out then is so too, and each packet on
-- the wires is read.

-- ---- what a machine has out

-- what it sends is read as it was put
read_parts : (xs ys : List Out) → AreReadBack (xs ++ ys) → AreReadBack xs × AreReadBack ys
read_parts [] ys h = (tt, h)
read_parts (Out.Says l ∷ xs) ys h = read_parts xs ys h
read_parts (Out.Sends p ∷ xs) ys h = let (first, rest) = read_parts xs ys h.1 in ((h.0, first), rest)

sender_reads : (n : NodeState) (b : ℕ) (s : Sending Message) → SenderReads (here n) b s → NodeReads n → NodeReads (with_sender n b s)
sender_reads n b s k h y = elim (eqb_tells b y) [
  | inl e ↦ subst (λ (t : Bool). SenderReads (here n) y (if t then s else n.senders y)) (sym e.0) (subst (λ (i : ℕ). SenderReads (here n) i s) e.1 k)
  | inr e ↦ subst (λ (t : Bool). SenderReads (here n) y (if t then s else n.senders y)) (sym e.0) (h y)
]

-- an event leads on where what it sends is read
abbrev pub ReadsOn : Acts → Type 0
ReadsOn (Goes a) = AreReadBack a.outs → NodeReads a.state
ReadsOn (Worn x y) = ⊤

behind_reads : (outs : List Out) (a : Acts) → (AreReadBack outs → ReadsOn a) → ReadsOn (behind outs a)
behind_reads outs (Goes a) k = λ all. let (first, rest) = read_parts outs a.outs all in k first rest
behind_reads outs (Worn x y) k = tt

then_reads : (a : Acts) (go : NodeState → Acts) → ReadsOn a → ((n : NodeState) → NodeReads n → ReadsOn (go n)) → ReadsOn (then_ a go)
then_reads (Goes a) go h k = behind_reads a.outs (go a.state) (λ first. k a.state (h first))
then_reads (Worn x y) go h k = tt

due_reads : (n : NodeState) (b : ℕ) (o : Option (ℕ × Message)) → due (n.senders b) ≡ o → NodeReads n → AreReadBack (sends_due n b o).outs → NodeReads (sends_due n b o).state
due_reads n b None is h read = h
due_reads n b (Some p) is h read = sender_reads n b (with_sent (n.senders b)) (sent_reads (here n) b (n.senders b) p.0 p.1 is read.0 (h b)) h

gives_reads : (n : NodeState) (b : ℕ) (m : Message) (none : Bool) → NodeReads n → ReadsOn (gives n b m (n.senders b) none)
gives_reads n b m none h =
    let s : Sending Message = with_given (n.senders b) m in
    let given : NodeReads (with_sender n b s) = sender_reads n b s (given_reads (here n) b (n.senders b) m (h b)) h in
    elim none as (λ (t : Bool). ReadsOn (gives n b m (n.senders b) t)) [
      | true ↦ λ read. due_reads (with_sender n b s) b (due s) (ap due (at_here n.senders b s)) given read
      | false ↦ λ read. given
    ]

routes_reads : (n : NodeState) (m : Message) → NodeReads n → ReadsOn (routes n m)
routes_reads n m h =
    let home : (t : Bool) → ReadsOn (routes_home n m t) = λ t. elim t as (λ (t : Bool). ReadsOn (routes_home n m t)) [ true ↦ tt | false ↦ λ read. h ] in
    let s : Sending Message = n.senders m.to.at in
    let away : ReadsOn (routes_away n m.to.at m s) = elim (is_worn s) as (λ (t : Bool). ReadsOn (if t then Worn (here n) m.to.at else gives n m.to.at m s (none_waits s))) [ true ↦ tt | false ↦ gives_reads n m.to.at m (none_waits s) h ] in
    elim (m.to.at == here n) as (λ (t : Bool). ReadsOn (if t then routes_home n m (n.home == n.numbers) else routes_away n m.to.at m s)) [ true ↦ home (n.home == n.numbers) | false ↦ away ]

acts_reads : (n : NodeState) (ps : List Part) → NodeReads n → ReadsOn (acts n ps)
acts_reads n [] h = λ read. h
acts_reads n (Part.Says l ∷ ps) h = behind_reads (Out.Says l ∷ []) (acts n ps) (λ first. acts_reads n ps h)
acts_reads n (Part.Routes m ∷ ps) h = then_reads (routes n m) (λ next. acts next ps) (routes_reads n m h) (λ next k. acts_reads next ps k)

-- a turn, of a kernel that stays on its machine
pub turn_reads : (n : NodeState) (t : Turned) → t.state.here ≡ here n → NodeReads n → ReadsOn (acts (record n { kernel = t.state }) t.parts)
turn_reads n t same h = acts_reads (record n { kernel = t.state }) t.parts (λ y. subst (λ (i : ℕ). SenderReads i y (n.senders y)) (sym same) (h y))

-- an arrival
next_reads : (n : NodeState) (a : ℕ) (o : Option Message) (go : NodeState → Acted) → NodeReads n → ((s : NodeState) → NodeReads s → NodeReads (go s).state) → NodeReads (takes_next n a o go).state
next_reads n a None go h k = h
next_reads n a (Some m) go h k = k (with_message (with_receiver n a (after_next (n.receivers a))) m) h

kept_reads : (k : ℕ) (n : NodeState) (a : ℕ) → NodeReads n → NodeReads (takes_kept k n a).state
unfolding takes_kept
kept_reads zero n a h = h
kept_reads (suc k) n a h = next_reads n a (next (n.receivers a)) (λ m. takes_kept k m a) h (λ m g. kept_reads k m a g)

comes_reads : (n : NodeState) (a k : ℕ) (x : Arrived Message) → NodeReads n → NodeReads (comes_in n a k x).state
comes_reads n a k (Taken m) h = kept_reads window (with_message n m) a h
comes_reads n a k _ h = h

lets_reads : (n : NodeState) (b : ℕ) (o : Option (ℕ × Message)) (go : NodeState → Acted) → due (n.senders b) ≡ o → NodeReads n → ((s : NodeState) → NodeReads s → AreReadBack (go s).outs → NodeReads (go s).state) → AreReadBack (lets_next n b o go).outs → NodeReads (lets_next n b o go).state
lets_reads n b None go is h k read = h
lets_reads n b (Some p) go is h k read = k (with_sender n b (with_sent (n.senders b))) (sender_reads n b (with_sent (n.senders b)) (sent_reads (here n) b (n.senders b) p.0 p.1 is read.0 (h b)) h) read.1

let_go_reads : (k : ℕ) (n : NodeState) (b : ℕ) → NodeReads n → AreReadBack (lets_go k n b).outs → NodeReads (lets_go k n b).state
unfolding lets_go
let_go_reads zero n b h read = h
let_go_reads (suc k) n b h read = lets_reads n b (due (n.senders b)) (λ m. lets_go k m b) refl h (λ m g. let_go_reads k m b g) read

pub arrives_reads : (n : NodeState) (a : ℕ) (l : Load Message) → FitsLoad n a l → NodeReads n → AreReadBack (arrives n a l).outs → NodeReads (arrives n a l).state
arrives_reads n a (Data k m) fits h read = comes_reads (with_receiver n a (after_arrival (n.receivers a) k m)) a k (arrival (n.receivers a) k m) h
arrives_reads n a (Ack k) fits h read = let_go_reads window (with_sender n a (with_acked (n.senders a) k)) a (sender_reads n a (with_acked (n.senders a) k) (acked_reads (here n) a (n.senders a) k fits (h a)) h) read

-- ---- what lies on the wires

pub bytes_marked : (xs : List Sent) (k j : ℕ) → bytes_at (wire.marked xs k) j ≡ bytes_at xs j
bytes_marked [] k j = refl
bytes_marked (x ∷ xs) zero zero = refl
bytes_marked (x ∷ xs) zero (suc j) = refl
bytes_marked (x ∷ xs) (suc k) zero = refl
bytes_marked (x ∷ xs) (suc k) (suc j) = bytes_marked xs k j

pub marked_read : (wires : ℕ → ℕ → List Sent) (a c k : ℕ) → WiresRead wires → WiresRead (after_mark wires a c k)
marked_read wires a c k h x y j bytes e = marked_by ((a == x) && (c == y)) e
  where
    marked_by : (t : Bool) → bytes_at (if t then wire.marked (wires x y) k else wires x y) j ≡ Some bytes → (p : Packet) × (packet_of bytes ≡ Ok p)
    marked_by true e = h x y j bytes (sym (bytes_marked (wires x y) k j) ∙ e)
    marked_by false e = h x y j bytes e

-- what is put last, or was there
put_bytes : (xs : List Sent) (new bytes : List ℕ) (j : ℕ) → bytes_at (xs ++ wire.just_put new ∷ []) j ≡ Some bytes → (bytes_at xs j ≡ Some bytes) ⊎ (new ≡ bytes)
put_bytes [] new bytes zero e = inr cc
put_bytes [] new bytes (suc j) e = none_some bytes e
put_bytes (x ∷ xs) new bytes zero e = inl e
put_bytes (x ∷ xs) new bytes (suc j) e = put_bytes xs new bytes j e

put_read : (wires : ℕ → ℕ → List Sent) (a c : ℕ) (p : Packet) → packet_of (spelling p) ≡ Ok p → WiresRead wires → WiresRead (after_put wires a c (spelling p))
put_read wires a c p read h x y j bytes e = put_by ((a == x) && (c == y)) e
  where
    put_by : (t : Bool) → bytes_at (if t then wires x y ++ wire.just_put (spelling p) ∷ [] else wires x y) j ≡ Some bytes → (q : Packet) × (packet_of bytes ≡ Ok q)
    put_by true e = elim (put_bytes (wires x y) (spelling p) bytes j e) [
      | inl there ↦ h x y j bytes there
      | inr last ↦ (p, subst (λ (z : List ℕ). packet_of z ≡ Ok p) last read)
    ]
    put_by false e = h x y j bytes e

packet_read : (wires : ℕ → ℕ → List Sent) (p : Packet) → packet_of (spelling p) ≡ Ok p → WiresRead wires → WiresRead (with_packet wires p)
packet_read wires (Packet.Data a c k m) read h = put_read wires a c (Packet.Data a c k m) read h
packet_read wires (Packet.Ack a c k) read h = put_read wires a c (Packet.Ack a c k) read h

pub spoken_read : (wires : ℕ → ℕ → List Sent) (outs : List Out) → AreReadBack outs → WiresRead wires → WiresRead (spoken wires outs).wires
spoken_read wires [] read h = h
spoken_read wires (Out.Says l ∷ outs) read h = spoken_read wires outs read h
spoken_read wires (Out.Sends p ∷ outs) read h = spoken_read (with_packet wires p) outs read.1 (packet_read wires p read.0 h)

-- Where what is sent is read as it was put, the world stays readable, whatever its machines do.

-- nothing is out where nothing was given
fresh_reads : (a c numbers : ℕ) → SenderReads a c (fresh_sending numbers)
fresh_reads a c numbers = record { acked = omega arith; gone = omega arith; out = λ j n m e. absurd (grind (arith, nat_tests)) }

pub first_readable : (b : Boot) → IsReadable (first_world b)
first_readable b = record { reads = λ a c k bytes e. cc; out = λ m y. fresh_reads (here ((first_world b).nodes m)) y (if nat_lt y 16 then b.numbers else 0) }

-- a machine acts
acted_readable : (w : WorldState) (e : Step) (m : ℕ) (d : Acted) → AreReadBack d.outs → NodeReads d.state → IsReadable w → IsReadable (acted w e m d).state
acted_readable w e m d read node h = record {
  reads = spoken_read w.wires d.outs read h.reads;
  out = λ c. elim (m == c) as (λ (t : Bool). NodeReads (if t then d.state else w.nodes c)) [ true ↦ node | false ↦ h.out c ];
}

pub turn_readable : (w : WorldState) (e : Step) (m : ℕ) (t : Turned) (d : Acted) → t.state.here ≡ here (w.nodes m) → acts (record (w.nodes m) { kernel = t.state }) t.parts ≡ Goes d → AreReadBack d.outs → IsReadable w → IsReadable (acted w e m d).state
turn_readable w e m t d same goes read h = acted_readable w e m d read (subst ReadsOn goes (turn_reads (w.nodes m) t same (h.out m)) read) h

pub tick_readable : (w : WorldState) (e : Step) (m : ℕ) → AreReadBack (tick (w.nodes m)).outs → IsReadable w → IsReadable (acted w e m (tick (w.nodes m))).state
tick_readable w e m read h = acted_readable w e m (tick (w.nodes m)) read (h.out m) h

pub arrival_readable : (w : WorldState) (e : Step) (a c k : ℕ) (carried : Load Message) → FitsLoad (w.nodes c) a carried → AreReadBack (arrives (w.nodes c) a carried).outs → IsReadable w
    → IsReadable (acted (record w { wires = after_mark w.wires a c k }) e c (arrives (w.nodes c) a carried)).state
arrival_readable w e a c k carried fits read h =
    acted_readable (record w { wires = after_mark w.wires a c k }) e c (arrives (w.nodes c) a carried) read (arrives_reads (w.nodes c) a carried fits (h.out c) read) (record { reads = marked_read w.wires a c k h.reads; out = h.out })

-- A packet comes: its mark, and the first line that it gives, make a world that stands.

-- the point behind the directive's line
abbrev pub begun : Point → ℕ → ℕ → ℕ → Point
begun pt a c k = moved pt (Line.Head (Step.Deliver a c k)) pt.kernel

-- the world behind the mark, where machine c is so
abbrev pub come_to : WorldState → ℕ → ℕ → ℕ → NodeState → WorldState
come_to w a c k n = record { nodes = at_machine w.nodes c n; wires = after_mark w.wires a c k; ended = w.ended; groups = w.groups + 1 }

abbrev pub marked_in : History → ℕ → ℕ → ℕ → History
marked_in h a c k = record h { packets = at_pair h.packets a c (marked (h.packets a c) k) }

-- set again, and set to what it was
pair_again : {X : Type 0} (f : ℕ → ℕ → X) (a c : ℕ) (x y : X) → at_pair (at_pair f a c x) a c y ≡ at_pair f a c y
pair_again f a c x y = grind (arith, nat_tests)

pair_kept : {X : Type 0} (f : ℕ → ℕ → X) (a c : ℕ) → at_pair f a c (f a c) ≡ f
pair_kept f a c = grind (arith, nat_tests, two_of)

module _ (b : Boot) (w : WorldState) (pt : Point) (l : Placed) (h : History) (a c : ℕ) (s : StandsWith b w pt l h) (a_in : a < pt.kernel.machines) (c_in : c < pt.kernel.machines) (apart : a ≢ c) where
  abbrev headed : WorldState
  headed = record w { groups = w.groups + 1 }

  abbrev head : Point
  head = record pt { view = begins pt.view c NothingElse }

  head_stands : StandsWith b headed head l h
  head_stands = stands_begins b w pt l h c NothingElse s

  there : Joined b l.bag a c (stream_of w h a c) (w.wires a c) (pt.view.pair a c)
  there = there_joined b w pt l h a c s a_in c_in apart

  back : Joined b l.bag c a (stream_of w h c a) (w.wires c a) (pt.view.pair c a)
  back = back_joined b w pt l h a c s a_in c_in apart

  -- machine c where its inbox is as it was
  node_kept : (pair : ℕ → ℕ → Pair) (ss : ℕ → Sending Message) (rs : ℕ → Receiving Message) → (pair c c).ids ≡ (pt.view.pair c c).ids → NodeStands b (with_pairs head pair pt.view.inbox) l c (record (w.nodes c) { senders = ss; receivers = rs })
  node_kept pair ss rs ids = let n = head_stands.nodes c c_in in node_on b head l pair pt.view.inbox c (w.nodes c) (w.nodes c).kernel.inbox ss rs n.kernel.inbox n.lawful.inbox ids n

  -- a message comes: the receiver, the pair and the inbox are so then
  data_stands : (k n : ℕ) (m : Message) (r : Receiving Message) (p : Pair) (inbox : ℕ → List MsgId) (ms : List Message) → load_at (h.packets a c) k ≡ Some (Data n m) → r ≡ after_arrival ((w.nodes c).receivers a) n m → p.ids ≡ (pt.view.pair a c).ids → (pt.view.pair a c).taken ≤ p.taken
      → Joined b l.bag a c (flow.arrives (record (stream_of w h a c) { out = marked (h.packets a c) k }) (Some (Data n m))) (wire.marked (w.wires a c) k) p → ((d : ℕ) → (c == d) ≡ false → inbox d ≡ pt.view.inbox d) → ((i : MsgId) → 1 ≤ times i (inbox c) → Stood pt.view i)
      → NodeStands b (with_pairs head (at_pair pt.view.pair a c p) inbox) l c (record (w.nodes c) { kernel = record (w.nodes c).kernel { inbox = ms }; receivers = at_machine (w.nodes c).receivers a r })
      → StandsWith b (come_to w a c k (record (w.nodes c) { kernel = record (w.nodes c).kernel { inbox = ms }; receivers = at_machine (w.nodes c).receivers a r })) (with_pairs head (at_pair pt.view.pair a c p) inbox) l (marked_in h a c k)
  data_stands k n m r p inbox ms e same ids more comes boxes came node =
      moves_stand b headed head l h a c (record (w.nodes c) { kernel = record (w.nodes c).kernel { inbox = ms }; receivers = at_machine (w.nodes c).receivers a r }) (after_mark w.wires a c k) (at_pair h.packets a c (marked (h.packets a c) k)) (at_pair pt.view.pair a c p) inbox
      (flow.arrives (record (stream_of w h a c) { out = marked (h.packets a c) k }) (Some (Data n m))) (wire.marked (w.wires a c) k) p (record (stream_of w h c a) { back = marked (h.packets a c) k }) (w.wires c a) (pt.view.pair c a) (record {
        pairs = λ x y t u. pair_other pt.view.pair a c p x y t;
        ids = ids_set pt.view.pair a c p ids;
        took = took_set pt.view.pair a c p more;
        came = came;
        node = node;
        there_stands = comes;
        back_stands = back_comes b l.bag c a (stream_of w h c a) (w.wires c a) (pt.view.pair c a) k n m e back;
        alone = search (at_here, at_other, mark_same, mark_other, pair_here, pair_other, back_other a c apart, at_here (w.nodes c).receivers a r ∙ same);
      }) head_stands apart

  -- a message that was taken before, whatever is read of it
  pub old_stands : (k n : ℕ) (m : Message) → load_at (h.packets a c) k ≡ Some (Data n m) → (x : Message) → n < ((w.nodes c).receivers a).count → StandsWith b (come_to w a c k (with_receiver (w.nodes c) a (after_arrival ((w.nodes c).receivers a) n x))) (moved (begun pt a c k) (Line.Old a c n) pt.kernel) l (marked_in h a c k)
  old_stands k n m e x lt =
      let r : Receiving Message = (w.nodes c).receivers a in
      let p : Pair = pt.view.pair a c in
      let mark : Pair = view.marked p k in
      data_stands k n m (after_arrival r n x) mark pt.view.inbox (w.nodes c).kernel.inbox e (after_old_is r n x lt ∙ sym (after_old_is r n m lt)) refl (omega arith)
      (data_comes b l.bag a c (stream_of w h a c) (w.wires a c) p k n m r p.taken p.kept e (after_old_is r n m lt) there.taken there.kept there.untaken there) (λ d off. refl) (λ i least. (Inbox c, least))
      (node_kept (at_pair pt.view.pair a c mark) (w.nodes c).senders (at_machine (w.nodes c).receivers a (after_arrival r n x)) (ids_set pt.view.pair a c mark refl c c))

  -- a message that comes early
  pub early_stands : (k n : ℕ) (m : Message) → load_at (h.packets a c) k ≡ Some (Data n m) → ((w.nodes c).receivers a).count < n → StandsWith b (come_to w a c k (with_receiver (w.nodes c) a (after_arrival ((w.nodes c).receivers a) n m))) (moved (begun pt a c k) (Line.Early a c n) pt.kernel) l (marked_in h a c k)
  early_stands k n m e gt =
      let r : Receiving Message = (w.nodes c).receivers a in
      let p : Pair = pt.view.pair a c in
      let mark : Pair = view.marked p k in
      let then_ : Pair = record mark { kept = n ∷ off n p.kept } in
      subst (λ (f : ℕ → ℕ → Pair). StandsWith b (come_to w a c k (with_receiver (w.nodes c) a (after_arrival r n m))) (with_pairs head f pt.view.inbox) l (marked_in h a c k))
      (sym (ap (λ (z : Pair). at_pair (at_pair pt.view.pair a c mark) a c (record z { kept = n ∷ off n z.kept })) (pair_here pt.view.pair a c mark) ∙ pair_again pt.view.pair a c mark then_))
      (data_stands k n m (after_arrival r n m) then_ pt.view.inbox (w.nodes c).kernel.inbox e refl refl (omega arith)
      (data_comes b l.bag a c (stream_of w h a c) (w.wires a c) p k n m (record { count = r.count; kept = kept_once r.kept (n - r.count) m }) p.taken (n ∷ off n p.kept) e (after_early_is r n m gt) there.taken
      (kept_early r p.kept n m gt ((MayCome-stands (stream_of w h a c) there.stream).in_window k n m e) there.stream.counted.places there.kept) there.untaken there) (λ d off. refl) (λ i least. (Inbox c, least))
      (node_kept (at_pair pt.view.pair a c then_) (w.nodes c).senders (at_machine (w.nodes c).receivers a (after_arrival r n m)) (ids_set pt.view.pair a c then_ refl c c)))

  -- the message that is next
  pub taken_stands : (k n : ℕ) (m : Message) → load_at (h.packets a c) k ≡ Some (Data n m) → n ≡ ((w.nodes c).receivers a).count → StandsWith b (come_to w a c k (with_message (with_receiver (w.nodes c) a (after_arrival ((w.nodes c).receivers a) n m)) m)) (moved (begun pt a c k) (Line.Taken a c n) pt.kernel) l (marked_in h a c k)
  taken_stands k n m e is =
      let r : Receiving Message = (w.nodes c).receivers a in
      let p : Pair = pt.view.pair a c in
      let mark : Pair = view.marked p k in
      let then_ : Pair = record mark { taken = p.taken + 1; kept = off n p.kept } in
      let t : Taking l p m = taking b l a c (stream_of w h a c) (w.wires a c) p m (ap (slice_get (h.given a c)) (sym is) ∙ there.stream.sent.data_given k n m e) there in
      let inbox : ℕ → List MsgId = at_machine pt.view.inbox c (pt.view.inbox c ++ m.id ∷ []) in
      subst (λ (q : Point). StandsWith b (come_to w a c k (with_message (with_receiver (w.nodes c) a (after_arrival r n m)) m)) q l (marked_in h a c k)) (sym (
      ap (λ (z : Pair). record pt { view = view.taken_id (view.with_pair (begun pt a c k).view a c (record z { taken = z.taken + 1; kept = off n z.kept })) c (oldest z) }) (pair_here pt.view.pair a c mark)
      ∙ ap (λ (o : Option MsgId). record pt { view = view.taken_id (view.with_pair (begun pt a c k).view a c then_) c o }) t.first
      ∙ ap (λ (f : ℕ → ℕ → Pair). with_pairs head f inbox) (pair_again pt.view.pair a c mark then_)))
      (data_stands k n m (after_arrival r n m) then_ inbox ((w.nodes c).kernel.inbox ++ m ∷ []) e refl refl (omega arith)
      (data_comes b l.bag a c (stream_of w h a c) (w.wires a c) p k n m (advanced r) (p.taken + 1) (off n p.kept) e (after_taken_is r n m is) (ap (λ (i : ℕ). i + 1) there.taken)
      (λ j. kept_taken r p.kept there.kept j ∙ ap (λ (i : ℕ). has j (off i p.kept)) (sym is)) (untaken_next l.bag p.ids (h.given a c) p.taken there.untaken) there)
      (at_other pt.view.inbox c (pt.view.inbox c ++ m.id ∷ [])) (λ i least. came_in pt.view a c m i t.first least)
      (node_takes b head l (at_pair pt.view.pair a c then_) c (w.nodes c) p m (w.nodes c).senders (at_machine (w.nodes c).receivers a (after_arrival r n m)) t (ids_set pt.view.pair a c then_ refl c c) (head_stands.nodes c c_in)))

  -- an acknowledgement
  pub acked_stands : (k n : ℕ) → load_at (h.packets a c) k ≡ Some (Ack n) → StandsWith b (come_to w a c k (with_sender (w.nodes c) a (with_acked ((w.nodes c).senders a) n))) (moved (begun pt a c k) (Line.Acked a c n) pt.kernel) l (marked_in h a c k)
  acked_stands k n e =
      let mark : Pair = view.marked (pt.view.pair a c) k in
      let first : ℕ → ℕ → Pair = at_pair pt.view.pair a c mark in
      let p : Pair = record (first c a) { acked = at_least (first c a).acked n } in
      let ids : (x y : ℕ) → (at_pair first c a p x y).ids ≡ (pt.view.pair x y).ids = λ x y. ids_set first c a p refl x y ∙ ids_set pt.view.pair a c mark refl x y in
      let ss : ℕ → Sending Message = at_machine (w.nodes c).senders a (with_acked ((w.nodes c).senders a) n) in
      moves_stand b headed head l h a c (record (w.nodes c) { senders = ss }) (after_mark w.wires a c k) (at_pair h.packets a c (marked (h.packets a c) k)) (at_pair first c a p) pt.view.inbox
      (record (stream_of w h a c) { out = marked (h.packets a c) k }) (wire.marked (w.wires a c) k) mark (record (stream_of w h c a) { sender = with_acked ((w.nodes c).senders a) n; back = marked (h.packets a c) k }) (w.wires c a) (record (pt.view.pair c a) { acked = at_least (pt.view.pair c a).acked n }) (record {
        pairs = λ x y t u. pair_other first c a p x y u ∙ pair_other pt.view.pair a c mark x y t;
        ids = ids;
        took = λ x y. let one = took_set pt.view.pair a c mark (omega arith) x y in let two = took_set first c a p (omega arith) x y in omega (arith, one, two);
        came = λ i least. (Inbox c, least);
        node = node_kept (at_pair first c a p) ss (w.nodes c).receivers (ids c c);
        there_stands = other_comes b l.bag a c (stream_of w h a c) (w.wires a c) (pt.view.pair a c) k n e there;
        back_stands = acked_comes b l.bag c a (stream_of w h c a) (w.wires c a) (pt.view.pair c a) k n e back;
        alone = search (
          at_here,
          at_other,
          mark_same,
          mark_other,
          pair_here,
          pair_other,
          back_other a c apart,
          pair_other first c a p a c (there_other a c apart) ∙ pair_here pt.view.pair a c mark,
          pair_here first c a p ∙ ap (λ (z : Pair). record z { acked = at_least z.acked n }) (pair_other pt.view.pair a c mark c a (back_other a c apart)),
        );
      }) head_stands apart

  -- there is no such packet
  pub nothing_stands : (k : ℕ) → slice_get (pt.view.pair a c).wire k ≡ None → StandsWith b (record w { groups = w.groups + 1 }) (moved (begun pt a c k) Line.Nothing pt.kernel) l h
  nothing_stands k e =
      subst (λ (f : ℕ → ℕ → Pair). StandsWith b headed (with_pairs head f pt.view.inbox) l h)
      (sym (ap (λ (o : Option view.SentLoad). at_pair pt.view.pair a c (record (pt.view.pair a c) { wire = view.marked_at (pt.view.pair a c).wire k o })) e ∙ pair_kept pt.view.pair a c)) head_stands
