-- All packets of a number spell the message that was routed under it.
use Rattle.dm_law_runs.proofs.Names.{◌≡◌, ◌≢◌, ℕ, zero, suc, ◌+◌, ◌-◌, ◌<◌, ◌≤◌, ◌==◌, ◌&&◌, Bool, true, false, not, filter, List, [], ◌∷◌, ◌++◌, map, drop, refl, ap, ◌∙◌, sym, subst, inl, inr, arith, if◌then◌else◌, slice_get, option_map}
use Rattle.dm_law_runs.proofs.Names.{Option, None, Some, cases_Bool, nat_tests, Message, MsgId, spelling, bytes_at, is_pair, load_at, Boot, Step, Line, bind-is, IsStep, Point, after, after_line, View, Pair, SentLoad, view_after, routed_on}
use Rattle.dm_law_runs.proofs.Names.{marked, marked_at, gone_after, at_least, pair_same, line_view, Placed, group_after, packet_of_load, WorldState, PutsFrom, marked_by, GoesOn, AreMessages, History, PairStands, Stands, StandsWith}
use Rattle.dm_law_runs.proofs.Names.{bytes_of, line_of, load_of, message_id, acts_locally, machines_group, plainly_is, kernel_stays, HasNumber, number_in, number_of, GoesTo, Spells, PacketsSpell, PacketsAgree, bytes_marked, length}
use Rattle.std.specs.Option.{unwrap_or}
use Rattle.dm_node.specs.State.{NodeState}
use Rattle.dm_world.specs.Local.{acts_on}
use Rattle.dm_world.specs.World.{seat_of}
use Rattle.dm_law_mirror.proofs.Machines.{machines_are}
use Rattle.dm_law_mirror.proofs.Seats.{seat_has}
use Rattle.dm_packet.specs.declared.Packet.TheVariants as packet
use Rattle.dm_wire.specs.Sent as wire
use Rattle.dm_stream.specs.Packets as stream
use Rattle.dm_law_runs.proofs.Wires.{set_keeps, taken_keeps}
use Rattle.dm_stream.proofs.Lists.{get-drop}

-- what stands at a place of a list that was made from another, or of its end
at_map : {A B : Type 0} (f : A → B) (xs : List A) (k : ℕ) → slice_get (map f xs) k ≡ option_map f (slice_get xs k)
at_map f [] k = refl
at_map f (x ∷ xs) zero = refl
at_map f (x ∷ xs) (suc k) = at_map f xs k

-- a packet that was printed as one of number n carries a message under it
record Carries (ps : List (stream.Packet Message)) (k n : ℕ) : Type 0 where
  message : Message
  packet : stream.Packet Message
  there : slice_get ps k ≡ Some packet
  load : packet.load ≡ stream.Data n message

carries_load : (ps : List (stream.Packet Message)) (k n : ℕ) (p : stream.Packet Message) (l : stream.Load Message) → slice_get ps k ≡ Some p → p.load ≡ l → number_in (load_of l) ≡ Some n → Carries ps k n
carries_load ps k n p (stream.Data j m) there is e = let f : j ≡ n = cc in record { message = m; packet = p; there = there; load = is ∙ ap (λ (x : ℕ). stream.Data x m) f }
carries_load ps k n p (stream.Ack j) there is e = cc

carries_some : (ps : List (stream.Packet Message)) (k n : ℕ) (o : Option (stream.Packet Message)) → slice_get ps k ≡ o → number_of (option_map line_of o) ≡ Some n → Carries ps k n
carries_some ps k n (Some p) is e = carries_load ps k n p p.load is refl e
carries_some ps k n None is e = cc

carries : (ps : List (stream.Packet Message)) (ws : List SentLoad) (k n : ℕ) → map line_of ps ≡ ws → number_of (slice_get ws k) ≡ Some n → Carries ps k n
carries ps ws k n are e = carries_some ps k n (slice_get ps k) refl (ap number_of (sym (at_map line_of ps k)) ∙ ap (λ (xs : List SentLoad). number_of (slice_get xs k)) are ∙ e)

carried_at : (ps : List (stream.Packet Message)) (k n : ℕ) (c : Carries ps k n) → load_at ps k ≡ Some (stream.Data n c.message)
unfolding load_at
carried_at ps k n c = ap (option_map (λ (p : stream.Packet Message). p.load)) c.there ∙ ap Some c.load

carried_bytes : (a c : ℕ) (ps : List (stream.Packet Message)) (ws : List wire.Sent) (k n : ℕ) (h : Carries ps k n) → ws ≡ map (bytes_of a c) ps → bytes_at ws k ≡ Some (spelling (packet.Data a c n h.message))
carried_bytes a c ps ws k n h are =
    ap (λ (xs : List wire.Sent). bytes_at xs k) are ∙ ap (option_map (λ (s : wire.Sent). s.bytes)) (at_map (bytes_of a c) ps k ∙ ap (option_map (bytes_of a c)) h.there) ∙ ap (λ (l : stream.Load Message). Some (spelling (packet_of_load a c l))) h.load

-- one pair
record OfPair (b : Boot) (pt : Point) (l : Placed) (w : WorldState) (h : History) (a c k n : ℕ) : Type 0 where
  message : Message
  given : slice_get (h.given a c) n ≡ Some message
  bytes : bytes_at (w.wires a c) k ≡ Some (spelling (packet.Data a c n message))

of_pair : (b : Boot) (pt : Point) (l : Placed) (w : WorldState) (h : History) (a c k n : ℕ) → PairStands b pt l w h a c → HasNumber pt a c k n → OfPair b pt l w h a c k n
of_pair b pt l w h a c k n s e =
    let x = carries (h.packets a c) (pt.view.pair a c).wire k n s.packets e in
    record { message = x.message; given = s.stream.sent.data_given k n x.message (carried_at (h.packets a c) k n x); bytes = carried_bytes a c (h.packets a c) (w.wires a c) k n x s.bytes }

-- a message that wasn't taken is in the bag
routed_there : (bag : MsgId → Option Message) (ids : List MsgId) (ms : List Message) (t n : ℕ) (m : Message) → map message_id ms ≡ ids → AreMessages bag (drop t ids) (drop t ms) → t ≤ n → slice_get ms n ≡ Some m → (slice_get ids n ≡ Some m.id) × (bag m.id ≡ Some m)
routed_there bag ids ms t n m names are le there =
    let name : slice_get ids n ≡ Some m.id = ap (λ (xs : List MsgId). slice_get xs n) (sym names) ∙ at_map message_id ms n ∙ ap (option_map message_id) there in
    let place : n ≡ t + (n - t) = omega (arith, le) in
    let id_at : slice_get (map bag (drop t ids)) (n - t) ≡ Some (bag m.id) = at_map bag (drop t ids) (n - t) ∙ ap (option_map bag) (get-drop t ids (n - t) n place ∙ name) in
    let message_at : slice_get (map Some (drop t ms)) (n - t) ≡ Some (Some m) = at_map Some (drop t ms) (n - t) ∙ ap (option_map Some) (get-drop t ms (n - t) n place ∙ there) in
    let same : Some (bag m.id) ≡ Some (Some m) = sym id_at ∙ ap (λ (xs : List (Option Message)). slice_get xs (n - t)) are ∙ message_at in
    (name, cc)

spells_pair : (b : Boot) (pt : Point) (l : Placed) (w : WorldState) (h : History) (a c k n : ℕ) → StandsWith b w pt l h → PairStands b pt l w h a c → (pt.view.pair a c).taken ≤ n → HasNumber pt a c k n → Spells pt a c n (bytes_at (w.wires a c) k)
spells_pair b pt l w h a c k n all s le e =
    let x = of_pair b pt l w h a c k n s e in
    let m = x.message in
    let (name, there) = routed_there l.bag (pt.view.pair a c).ids (h.given a c) (pt.view.pair a c).taken n m s.ids s.untaken le x.given in
    record { message = m; routed = name; are = x.bytes; plain = plainly_is pt.kernel l m.id m (all.mirrors.plain.bag m.id) there; own = λ none. (all.own m.id m there none).told }

-- two packets of one number
agree_pair : (b : Boot) (pt : Point) (l : Placed) (w : WorldState) (h : History) (a c j k n : ℕ) → PairStands b pt l w h a c → HasNumber pt a c j n → HasNumber pt a c k n → bytes_at (w.wires a c) k ≡ bytes_at (w.wires a c) j
agree_pair b pt l w h a c j k n s e f =
    let x = of_pair b pt l w h a c j n s e in
    let y = of_pair b pt l w h a c k n s f in
    let same : Some y.message ≡ Some x.message = sym y.given ∙ x.given in
    let m : y.message ≡ x.message = cc in
    y.bytes ∙ ap (λ (z : Message). Some (spelling (packet.Data a c n z))) m ∙ sym x.bytes

-- the numbers of a wire stay, line by line
push_at : (ws : List SentLoad) (s : SentLoad) (k n : ℕ) → number_of (slice_get ws k) ≡ Some n → number_of (slice_get (ws ++ s ∷ []) k) ≡ Some n
push_at [] s k n e = cc
push_at (x ∷ ws) s zero n e = e
push_at (x ∷ ws) s (suc k) n e = push_at ws s k n e

mark_at : (ws : List SentLoad) (i : ℕ) (o : Option SentLoad) (k n : ℕ) → slice_get ws i ≡ o → number_of (slice_get ws k) ≡ Some n → number_of (slice_get (marked_at ws i o) k) ≡ Some n
mark_at ws i None k n at e = e
mark_at [] i (Some s) k n at e = cc
mark_at (x ∷ ws) zero (Some s) zero n at e = let f : x ≡ s = cc in ap (λ (y : SentLoad). number_in y.load) (sym f) ∙ e
mark_at (x ∷ ws) zero (Some s) (suc k) n at e = e
mark_at (x ∷ ws) (suc i) (Some s) zero n at e = e
mark_at (x ∷ ws) (suc i) (Some s) (suc k) n at e = mark_at ws i (Some s) k n at e

abbrev Has : View → ℕ → ℕ → ℕ → ℕ → Type 0
Has v a c k n = number_of (slice_get (v.pair a c).wire k) ≡ Some n

has_same : (v w : View) (a c k n : ℕ) → (w.pair a c).wire ≡ (v.pair a c).wire → Has v a c k n → Has w a c k n
has_same v w a c k n e h = ap (λ (ws : List SentLoad). number_of (slice_get ws k)) e ∙ h

-- a pair is set to one with a wire that keeps its numbers
set_has : (v : View) (x y : ℕ) (p : Pair) (a c k n : ℕ) → (number_of (slice_get (v.pair x y).wire k) ≡ Some n → number_of (slice_get p.wire k) ≡ Some n) → Has v a c k n → number_of (slice_get (if (x == a) && (y == c) then p else v.pair a c).wire k) ≡ Some n
set_has v x y p a c k n keeps h = elim (cases_Bool ((x == a) && (y == c))) [
  | inl here ↦
      let xa : x ≡ a = grind (arith, nat_tests) in
      let yc : y ≡ c = grind (arith, nat_tests) in
      ap (λ (t : Bool). number_of (slice_get (if t then p else v.pair a c).wire k)) here
      ∙ keeps (ap (λ (z : ℕ). number_of (slice_get (v.pair z y).wire k)) xa ∙ ap (λ (z : ℕ). number_of (slice_get (v.pair a z).wire k)) yc ∙ h)
  | inr apart ↦ ap (λ (t : Bool). number_of (slice_get (if t then p else v.pair a c).wire k)) apart ∙ h
]

line_has : (v : View) (l : Line) (a c k n : ℕ) → Has v a c k n → Has (view_after v l) a c k n
line_has v (Line.Packet x y i l) a c k n h =
    let p = v.pair x y in
    set_has v x y (record p { gone = gone_after l p.gone; wire = p.wire ++ record { load = l; delivered = false } ∷ [] }) a c k n (λ e. push_at p.wire (record { load = l; delivered = false }) k n e) h
line_has v (Line.Head (Step.Deliver x y i)) a c k n h = set_has v x y (marked (v.pair x y) i) a c k n (λ e. mark_at (v.pair x y).wire i (slice_get (v.pair x y).wire i) k n refl e) h
line_has v (Line.Head (Step.Turn m)) a c k n h = h
line_has v (Line.Head (Step.Tick m)) a c k n h = h
line_has v (Line.Head (Step.Migrate p m)) a c k n h = h
line_has v (Line.Head (Step.CallOff p m)) a c k n h = h
line_has v (Line.Put x y i m q) a c k n h = has_same v (view_after v (Line.Put x y i m q)) a c k n (set_keeps (λ (p : Pair). p.wire) v.pair x y (routed_on x y (v.pair x y) i) a c refl) h
line_has v (Line.Taken x y i) a c k n h = has_same v (view_after v (Line.Taken x y i)) a c k n (taken_keeps (λ (p : Pair). p.wire) v x y i a c refl) h
line_has v (Line.Early x y i) a c k n h =
    has_same v (view_after v (Line.Early x y i)) a c k n (set_keeps (λ (p : Pair). p.wire) v.pair x y (record (v.pair x y) { kept = i ∷ filter (λ j. not (j == i)) (v.pair x y).kept }) a c refl) h
line_has v (Line.Acked x y i) a c k n h =
    has_same v (view_after v (Line.Acked x y i)) a c k n (set_keeps (λ (p : Pair). p.wire) v.pair y x (record (v.pair y x) { acked = at_least (v.pair y x).acked i }) a c refl) h
line_has v l a c k n h = has_same v (view_after v l) a c k n (ap (λ (g : ℕ → ℕ → Pair). (g a c).wire) (pair_same v l refl)) h

lines_have : (ls : List Line) (pt q : Point) (a c k n : ℕ) → after pt ls ≡ Some q → Has pt.view a c k n → Has q.view a c k n
lines_have [] pt q a c k n e h = let f : pt ≡ q = cc in subst (λ (x : Point). Has x.view a c k n) f h
lines_have (l ∷ ls) pt q a c k n e h =
    let (next, first, rest) = bind-is (after_line pt l) (λ (x : Point). after x ls) q e in
    lines_have ls next q a c k n rest (subst (λ (v : View). Has v a c k n) (sym (line_view pt next l first)) (line_has pt.view l a c k n h))

-- and its packets' bytes stay, directive by directive
bytes_more : (ps more : List wire.Sent) (k : ℕ) (x : List ℕ) → bytes_at ps k ≡ Some x → bytes_at (ps ++ more) k ≡ Some x
bytes_more [] more k x e = cc
bytes_more (p ∷ ps) more zero x e = e
bytes_more (p ∷ ps) more (suc k) x e = bytes_more ps more k x e

bytes_by : (ps : List wire.Sent) (i k : ℕ) (here : Bool) → bytes_at (if here then wire.marked ps i else ps) k ≡ bytes_at ps k
bytes_by ps i k true = bytes_marked ps i k
bytes_by ps i k false = refl

bytes_headed : (e : Step) (w : WorldState) (a c k : ℕ) → bytes_at ((marked_by e w).wires a c) k ≡ bytes_at (w.wires a c) k
bytes_headed (Step.Deliver x y i) w a c k = bytes_by (w.wires a c) i k (is_pair x y a c)
bytes_headed _ w a c k = refl

bytes_put : (m : ℕ) (more : ℕ → List wire.Sent) (w u : WorldState) (a c k : ℕ) (x : List ℕ) (own : Bool) → (m == a) ≡ own → PutsFrom m more w u → bytes_at (w.wires a c) k ≡ Some x → bytes_at (u.wires a c) k ≡ Some x
bytes_put m more w u a c k x true is h e =
    let f : m ≡ a = grind (arith, nat_tests) in
    let grown : u.wires a c ≡ w.wires a c ++ more c = ap (λ (y : ℕ). u.wires y c) (sym f) ∙ h.own c ∙ ap (λ (y : ℕ). w.wires y c ++ more c) f in
    ap (λ (ps : List wire.Sent). bytes_at ps k) grown ∙ bytes_more (w.wires a c) (more c) k x e
bytes_put m more w u a c k x false is h e =
    let apart : a ≢ m = grind (arith, nat_tests) in
    ap (λ (ps : List wire.Sent). bytes_at ps k) (h.others a c apart) ∙ e

-- the machine that a directive lets act is one that there is
seat_less : (k n : ℕ) (nodes : ℕ → NodeState) (o : Option ℕ) → seat_of k nodes ≡ o → k ≡ n → 0 < n → unwrap_or o 0 < n
seat_less k n nodes None e is least = least
seat_less k n nodes (Some s) e is least = let within = (seat_has k s nodes e).0 in omega (arith, within, is)

acts_less : (b : Boot) (w : WorldState) (n : ℕ) (e : Step) → length b.machines ≡ n → IsStep n e → acts_on b w e < n
acts_less b w n (Step.Turn m) is fit = fit
acts_less b w n (Step.Tick m) is fit = fit
acts_less b w n (Step.Deliver a c k) is fit = fit.1
acts_less b w n (Step.Migrate p m) is fit = seat_less (length b.machines) n w.nodes (seat_of (length b.machines) w.nodes) refl is (omega (arith, fit))
acts_less b w n (Step.CallOff p m) is fit = fit

bytes_on : (b : Boot) (w : WorldState) (pt : Point) (e : Step) (g : GoesOn b w pt e) (a c k : ℕ) (x : List ℕ) → Stands b w pt → length b.machines ≡ pt.kernel.machines → IsStep pt.kernel.machines e → bytes_at (w.wires a c) k ≡ Some x → bytes_at (g.said.state.wires a c) k ≡ Some x
bytes_on b w pt e g a c k x ((l, h, s), counts) many fit is =
    let m = acts_on b w e in
    let here = (s.nodes m (acts_less b w pt.kernel.machines e many fit)).kernel.here in
    let (more, puts) = acts_locally kernel_stays b w e g.said here g.happens in
    bytes_put m more (marked_by e w) g.said.state a c k x (m == a) refl puts (bytes_headed e w a c k ∙ is)

-- a run of the world
record Reached (b : Boot) (u : WorldState) (pt q : Point) (a c k n : ℕ) (x : List ℕ) : Type 0 where
  stands : Stands b u q
  machines : q.kernel.machines ≡ pt.kernel.machines
  number : HasNumber q a c k n
  bytes : bytes_at (u.wires a c) k ≡ Some x

reached : (b : Boot) (es : List Step) (w u : WorldState) (pt q : Point) (a c k n : ℕ) (x : List ℕ) → Stands b w pt → length b.machines ≡ pt.kernel.machines → GoesTo b w pt es u q → HasNumber pt a c k n → bytes_at (w.wires a c) k ≡ Some x → Reached b u pt q a c k n x
reached b [] w u pt q a c k n x s many (e, f) number bytes = record {
  stands = subst (λ (v : WorldState). Stands b v q) e (subst (Stands b w) f s);
  machines = ap (λ (p : Point). p.kernel.machines) (sym f);
  number = subst (λ (p : Point). HasNumber p a c k n) f number;
  bytes = subst (λ (v : WorldState). bytes_at (v.wires a c) k ≡ Some x) e bytes;
}
reached b (e ∷ es) w u pt q a c k n x s many (g, fit, rest) number bytes =
    let next = lines_have g.group.lines pt g.group.point a c k n (group_after b pt e g.group g.due) number in
    let same = machines_group b pt e g.group g.due in
    let r = reached b es g.said.state u g.group.point q a c k n x g.stands (many ∙ sym same) rest next (bytes_on b w pt e g a c k x s many fit bytes) in
    record { stands = r.stands; machines = r.machines ∙ same; number = r.number; bytes = r.bytes }

-- there is a packet where there is a number
agrees_on : (b : Boot) (more : List Step) (w u : WorldState) (pt q : Point) (a c j k n : ℕ) → Stands b w pt → length b.machines ≡ pt.kernel.machines → GoesTo b w pt more u q → a < pt.kernel.machines → c < pt.kernel.machines → a ≢ c → HasNumber pt a c j n → HasNumber q a c k n
    → bytes_at (u.wires a c) k ≡ bytes_at (w.wires a c) j
agrees_on b more w u pt q a c j k n ((l, h, s), counts) many goes a_in c_in apart first last =
    let x = of_pair b pt l w h a c j n (s.pairs a c a_in c_in apart) first in
    let bytes = spelling (packet.Data a c n x.message) in
    let r = reached b more w u pt q a c j n bytes ((l, h, s), counts) many goes first x.bytes in
    later r x.bytes r.stands
  where
    later : {y : List ℕ} → Reached b u pt q a c j n y → bytes_at (w.wires a c) j ≡ Some y → Stands b u q → bytes_at (u.wires a c) k ≡ bytes_at (w.wires a c) j
    later r is ((l2, h2, s2), counts2) =
        let same : q.kernel.machines ≡ pt.kernel.machines = r.machines in
        agree_pair b q l2 u h2 a c j k n (s2.pairs a c (omega (arith, same, a_in)) (omega (arith, same, c_in)) apart) r.number last ∙ r.bytes ∙ sym is

pub packets_agree : PacketsAgree
packets_agree b es more w u pt q a c j k n valid leads stands goes a_in c_in apart first last = agrees_on b more w u pt q a c j k n stands (sym (machines_are b es pt leads)) goes a_in c_in apart first last

pub packets_spell : PacketsSpell
packets_spell b es more w u pt q a c j k n valid leads ((l, h, s), counts) goes a_in c_in apart untaken first last =
    let same = agrees_on b more w u pt q a c j k n ((l, h, s), counts) (sym (machines_are b es pt leads)) goes a_in c_in apart first last in
    subst (Spells pt a c n) (sym same) (spells_pair b pt l w h a c j n s (s.pairs a c a_in c_in apart) untaken first)
