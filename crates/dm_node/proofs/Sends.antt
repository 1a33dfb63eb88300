-- What a machine sends can be encoded, and goes from it to another machine.
use Rattle.dm_node.proofs.Names.{◌≡◌, ◌≢◌, ℕ, zero, suc, ◌+◌, ◌-◌, ◌<◌, ◌≤◌, Bool, true, false, ◌==◌, List, [], ◌∷◌, refl, sym, subst, inl, inr, arith, ⊤, if◌then◌else◌, nat_lt, slice_get, All, Option, None, Some, eqb_tells, All-append}
use Rattle.dm_node.proofs.Names.{All-cons, All-drop, All-get_or, All-head, All-nil, All-push, All-tail, get_or_from_slice_get, slice_get_within, Message, IsMachine, Pid, IsLawfulMessage, IsRoute, Load, Data, Ack, Sending, due, numbered}
use Rattle.dm_node.proofs.Names.{outstanding, window, with_acked, with_given, with_sent, after_arrival, after_next, arrival, next, Arrived, Taken, Old, Early, Boot, images_are_valid, Line, Part, IsLawfulPart, IsLawfulState, IsLawfulTurned}
use Rattle.dm_node.proofs.Names.{Turned, asked_lawful, turn_lawful, Out, Says, Sends, NodeState, here, with_message, with_receiver, with_sender, Acted, Acts, Goes, Worn, behind, then_, acknowledges, acts, again, all_out, arrives, comes_in}
use Rattle.dm_node.proofs.Names.{count_out, first_out, gives, is_worn, lets_go, lets_next, none_waits, put_line, routes, routes_away, routes_home, sends_due, takes_kept, takes_next, then_acknowledges, tick, turns, ActsLawfully, IsLawfulOut}
use Rattle.dm_node.proofs.Names.{MayAct, MayArrive, MayAskMove, MayTurn, called_off_lawful, MayCallOff}
use Rattle.dm_packet.specs.declared.Packet.TheVariants as packet
use Rattle.dm_line.specs.declared.line.Line.TheVariants as line
use Rattle.dm_kernel.specs.declared.part.Part.TheVariants as part
use Rattle.dm_kernel.specs.Asking as asking
use Rattle.dm_kernel.specs.Coming as coming
use Rattle.dm_node.specs.Acts.{calls_off}
use Rattle.dm_node.proofs.Here.{calls_off_stays}
use Rattle.dm_kernel.specs.Turn as kernel
use Rattle.dm_node.specs.Acts.{asks_move, turn}
use Rattle.dm_node.proofs.Here.{StaysAt, asks_move_stays, turn_stays}
use Rattle.dm_node.proofs.Staying.{MayAfter, routes_may, with_kernel_may, with_sender_may}

abbrev pub Lawfully : ℕ → Acts → Type 0
Lawfully m (Goes a) = ActsLawfully m a
Lawfully m (Worn x y) = ⊤

pub route_of : (a b : ℕ) → a < 16 → b < 16 → b ≢ a → IsRoute a b
route_of a b h k apart = record { from = omega arith; to = omega arith; apart = apart }

data_out : (m b k : ℕ) (w : Message) → IsRoute m b → IsLawfulMessage w → IsLawfulOut m (Sends (packet.Data m b k w))
data_out m b k w r h = ((r, h), refl)

none_out : (m : ℕ) → All (IsLawfulOut m) []
none_out m = All-nil (IsLawfulOut m)

one_out : (m : ℕ) (o : Out) → IsLawfulOut m o → All (IsLawfulOut m) (o ∷ [])
one_out m o h = All-cons (IsLawfulOut m) o [] h (none_out m)

line_out : (m : ℕ) (l : Line) → All (IsLawfulOut m) (Says l ∷ [])
line_out m l = one_out m (Says l) tt

-- the messages of a stream
abbrev NumberFits : Option (ℕ × Message) → Type 0
NumberFits None = ⊤
NumberFits (Some p) = IsLawfulMessage p.1

message_at : (xs : List Message) (k n : ℕ) (o : Option Message) → slice_get xs k ≡ o → All IsLawfulMessage xs → NumberFits (numbered n o)
message_at xs k n None e h = tt
message_at xs k n (Some m) e h = subst IsLawfulMessage (get_or_from_slice_get xs k m m e) (All-get_or IsLawfulMessage xs k m (slice_get_within xs k m e) h)

due_fits : (s : Sending Message) → All IsLawfulMessage s.unacked → NumberFits (due s)
due_fits s h =
    elim (nat_lt s.gone (s.acked + window)) as (λ (t : Bool). NumberFits (if t then numbered s.gone (slice_get s.unacked (s.gone - s.acked)) else None)) [
      | true ↦ message_at s.unacked (s.gone - s.acked) s.gone (slice_get s.unacked (s.gone - s.acked)) refl h
      | false ↦ tt
    ]

outstanding_fits : (s : Sending Message) (k : ℕ) → All IsLawfulMessage s.unacked → NumberFits (outstanding s k)
outstanding_fits s k h =
    elim (nat_lt (s.acked + k) s.gone) as (λ (t : Bool). NumberFits (if t then numbered (s.acked + k) (slice_get s.unacked k) else None)) [
      | true ↦ message_at s.unacked k (s.acked + k) (slice_get s.unacked k) refl h
      | false ↦ tt
    ]

-- what is due goes out
due_lawfully : (n : NodeState) (b : ℕ) (o : Option (ℕ × Message)) → IsRoute (here n) b → NumberFits o → ActsLawfully (here n) (sends_due n b o)
due_lawfully n b None r h = record { here = refl; outs = none_out (here n) }
due_lawfully n b (Some p) r h = record { here = refl; outs = one_out (here n) (Sends (packet.Data (here n) b p.0 p.1)) (data_out (here n) b p.0 p.1 r h) }

behind_lawfully : (m : ℕ) (outs : List Out) (a : Acts) → All (IsLawfulOut m) outs → Lawfully m a → Lawfully m (behind outs a)
behind_lawfully m outs (Goes a) h k = record { here = k.here; outs = All-append (IsLawfulOut m) outs a.outs h k.outs }
behind_lawfully m outs (Worn x y) h k = tt

-- a message is routed
gives_lawfully : (n : NodeState) (b : ℕ) (m : Message) (none : Bool) → IsRoute (here n) b → IsLawfulMessage m → All IsLawfulMessage (n.senders b).unacked
    → Lawfully (here n) (gives n b m (n.senders b) none)
gives_lawfully n b m true r l h =
    let s = with_given (n.senders b) m in
    let now = with_sender n b s in
    behind_lawfully (here n) (Says (put_line n m) ∷ []) (Goes (sends_due now b (due s))) (line_out (here n) (put_line n m))
    (due_lawfully now b (due s) r (due_fits s (All-push IsLawfulMessage (n.senders b).unacked m h l)))
gives_lawfully n b m false r l h = record { here = refl; outs = line_out (here n) (put_line n m) }

away_lawfully : (n : NodeState) (m : Message) → m.to.at < 16 → m.to.at ≢ here n → IsLawfulMessage m → MayAct n → Lawfully (here n) (routes_away n m.to.at m (n.senders m.to.at))
away_lawfully n m k apart l h =
    let b = m.to.at in
    let s = n.senders b in
    elim (is_worn s) as (λ (c : Bool). Lawfully (here n) (if c then Worn (here n) b else gives n b m s (none_waits s))) [
      | true ↦ tt
      | false ↦ gives_lawfully n b m (none_waits s) (route_of (here n) b h.here k apart) l (h.unacked b k)
    ]

home_lawfully : (n : NodeState) (m : Message) (worn : Bool) → Lawfully (here n) (routes_home n m worn)
home_lawfully n m true = tt
home_lawfully n m false = record { here = refl; outs = line_out (here n) (put_line n m) }

pub routes_lawfully : (n : NodeState) (m : Message) → IsLawfulMessage m → MayAct n → Lawfully (here n) (routes n m)
routes_lawfully n m l h =
    let at = l.to.at in
    let k : m.to.at < 16 = omega (arith, at) in
    elim (eqb_tells m.to.at (here n)) [
      | inl e ↦ subst (λ c. Lawfully (here n) (if c then routes_home n m (n.home == n.numbers) else routes_away n m.to.at m (n.senders m.to.at))) (sym e.0) (home_lawfully n m (n.home == n.numbers))
      | inr e ↦ subst (λ c. Lawfully (here n) (if c then routes_home n m (n.home == n.numbers) else routes_away n m.to.at m (n.senders m.to.at))) (sym e.0) (away_lawfully n m k e.1 l h)
    ]

-- the parts of a turn
then_lawfully : (m : ℕ) (a : Acts) (go : NodeState → Acts) → Lawfully m a → MayAfter a → ((s : NodeState) → here s ≡ m → MayAct s → Lawfully m (go s)) → Lawfully m (then_ a go)
then_lawfully m (Goes a) go h may k = behind_lawfully m a.outs (go a.state) h.outs (k a.state h.here may)
then_lawfully m (Worn x y) go h may k = tt

acts_lawfully : (m : ℕ) (n : NodeState) (ps : List Part) → here n ≡ m → All IsLawfulPart ps → MayAct n → Lawfully m (acts n ps)
acts_lawfully m n [] e fit h = record { here = e; outs = none_out m }
acts_lawfully m n (part.Says l ∷ ps) e fit h = behind_lawfully m (Says l ∷ []) (acts n ps) (line_out m l) (acts_lawfully m n ps e (All-tail IsLawfulPart (part.Says l) ps fit) h)
acts_lawfully m n (part.Routes w ∷ ps) e fit h =
    let l : IsLawfulMessage w = All-head IsLawfulPart (part.Routes w) ps fit in
    then_lawfully m (routes n w) (λ next. acts next ps) (subst (λ k. Lawfully k (routes n w)) e (routes_lawfully n w l h)) (routes_may n w l h)
    (λ s f g. acts_lawfully m s ps f (All-tail IsLawfulPart (part.Routes w) ps fit) g)

some_lawfully : (n : NodeState) (o : Option Turned) (a : Acted) → turns n o ≡ Some (Goes a) → StaysAt (here n) o → ((t : Turned) → o ≡ Some t → IsLawfulTurned t) → MayAct n
    → ActsLawfully (here n) a
some_lawfully n None a e stays lawful h = absurd (cc)
some_lawfully n (Some t) a e stays lawful h =
    let is : acts (record n { kernel = t.state }) t.parts ≡ Goes a = cc in
    subst (Lawfully (here n)) is (acts_lawfully (here n) (record n { kernel = t.state }) t.parts stays (lawful t refl).parts.each (with_kernel_may n t.state stays h))

pub turns_lawfully : (b : Boot) (n : NodeState) (a : Acted) → images_are_valid b.images ≡ true → MayTurn b n → IsLawfulState n.kernel → turn b n ≡ Some (Goes a) → ActsLawfully (here n) a
turns_lawfully b n a images may lawful e =
    some_lawfully n (kernel.turn b n.kernel) a e (turn_stays b n.kernel) (λ t is. turn_lawful b n.kernel t images may.kernel lawful is) may.acts

pub asks_lawfully : (n : NodeState) (p : Pid) (machine : ℕ) (a : Acted) → IsMachine machine → MayAskMove n → IsLawfulState n.kernel → asks_move n p machine ≡ Some (Goes a) → ActsLawfully (here n) a
asks_lawfully n p machine a to may lawful e =
    some_lawfully n (asking.asks_move n.kernel p machine) a e (asks_move_stays n.kernel p machine) (λ t is. asked_lawful n.kernel p machine t may.kernel.here to lawful is) may.acts

pub calls_off_lawfully : (n : NodeState) (p : Pid) (a : Acted) → MayCallOff n p → IsLawfulState n.kernel → calls_off n p ≡ Some (Goes a) → ActsLawfully (here n) a
calls_off_lawfully n p a may lawful e =
    some_lawfully n (coming.calls_off n.kernel p) a e (calls_off_stays n.kernel p) (λ t is. called_off_lawful n.kernel p t may.kernel.here lawful is) may.acts

-- a tick
again_lawfully : (n : NodeState) (b : ℕ) (o : Option (ℕ × Message)) → IsRoute (here n) b → NumberFits o → All (IsLawfulOut (here n)) (again n b o)
again_lawfully n b None r h = none_out (here n)
again_lawfully n b (Some p) r h = one_out (here n) (Sends (packet.Data (here n) b p.0 p.1)) (data_out (here n) b p.0 p.1 r h)

first_lawfully : (n : NodeState) (b k : ℕ) → IsRoute (here n) b → All IsLawfulMessage (n.senders b).unacked → All (IsLawfulOut (here n)) (first_out n b k)
first_lawfully n b zero r h = none_out (here n)
first_lawfully n b (suc k) r h =
    All-append (IsLawfulOut (here n)) (first_out n b k) (again n b (outstanding (n.senders b) k)) (first_lawfully n b k r h)
    (again_lawfully n b (outstanding (n.senders b) k) r (outstanding_fits (n.senders b) k h))

all_lawfully : (n : NodeState) (k : ℕ) → k ≤ 16 → MayAct n → All (IsLawfulOut (here n)) (all_out n k)
all_lawfully n zero few h = none_out (here n)
all_lawfully n (suc b) few h =
    let small : b < 16 = omega arith in
    let rest : b ≤ 16 = omega arith in
    let f = λ (c : Bool). if c then [] else first_out n b (count_out (n.senders b)) in
    All-append (IsLawfulOut (here n)) (all_out n b) (f (here n == b)) (all_lawfully n b rest h)
    (elim (eqb_tells (here n) b) [
      | inl e ↦ subst (λ c. All (IsLawfulOut (here n)) (f c)) (sym e.0) (none_out (here n))
      | inr e ↦
          subst (λ c. All (IsLawfulOut (here n)) (f c)) (sym e.0)
          (first_lawfully n b (count_out (n.senders b)) (route_of (here n) b h.here small (λ same. e.1 (sym same))) (h.unacked b small))
    ])

pub ticks_lawfully : (n : NodeState) → MayAct n → ActsLawfully (here n) (tick n)
ticks_lawfully n h = record { here = refl; outs = All-cons (IsLawfulOut (here n)) _ (all_out n n.machines) tt (all_lawfully n n.machines h.machines h) }

-- a message comes
next_lawfully : (m : ℕ) (n : NodeState) (a : ℕ) (o : Option Message) (go : NodeState → Acted) → here n ≡ m → ((s : NodeState) → here s ≡ m → ActsLawfully m (go s))
    → ActsLawfully m (takes_next n a o go)
next_lawfully m n a None go e k = record { here = e; outs = none_out m }
next_lawfully m n a (Some w) go e k =
    let now = with_message (with_receiver n a (after_next (n.receivers a))) w in
    let r : ActsLawfully m (go now) = k now e in
    record { here = r.here; outs = All-cons (IsLawfulOut m) (Says (line.Taken a (here n) (n.receivers a).count)) (go now).outs tt r.outs }

kept_lawfully : (k m : ℕ) (n : NodeState) (a : ℕ) → here n ≡ m → ActsLawfully m (takes_kept k n a)
unfolding takes_kept
kept_lawfully zero m n a e = record { here = e; outs = none_out m }
kept_lawfully (suc k) m n a e = next_lawfully m n a (next (n.receivers a)) (λ s. takes_kept k s a) e (λ s f. kept_lawfully k m s a f)

pub in_lawfully : (m : ℕ) (n : NodeState) (a k : ℕ) (x : Arrived Message) → here n ≡ m → ActsLawfully m (comes_in n a k x)
in_lawfully m n a k (Taken w) e =
    let r : ActsLawfully m (takes_kept window (with_message n w) a) = kept_lawfully window m (with_message n w) a e in
    record { here = r.here; outs = All-cons (IsLawfulOut m) (Says (line.Taken a (here n) k)) (takes_kept window (with_message n w) a).outs tt r.outs }
in_lawfully m n a k Old e = record { here = e; outs = line_out m (line.Old a (here n) k) }
in_lawfully m n a k Early e = record { here = e; outs = line_out m (line.Early a (here n) k) }

acknowledged_lawfully : (m : ℕ) (d : Acted) (a : ℕ) → IsRoute m a → ActsLawfully m d → ActsLawfully m (then_acknowledges d a)
acknowledged_lawfully m d a r h =
    record {
      here = h.here;
      outs =
          All-append (IsLawfulOut m) d.outs (acknowledges d.state a) h.outs
          (one_out m (Sends (packet.Ack (here d.state) a (d.state.receivers a).count)) (subst (λ j. IsRoute j a) (sym h.here) r, h.here));
    }

-- an acknowledgement comes
lets_lawfully : (m : ℕ) (n : NodeState) (b : ℕ) (o : Option (ℕ × Message)) (go : NodeState → Acted) → here n ≡ m → b < 16 → IsRoute m b → MayAct n → NumberFits o
    → ((s : NodeState) → here s ≡ m → MayAct s → ActsLawfully m (go s)) → ActsLawfully m (lets_next n b o go)
lets_lawfully m n b None go e small r h fits k = record { here = e; outs = none_out m }
lets_lawfully m n b (Some p) go e small r h fits k =
    let now = with_sender n b (with_sent (n.senders b)) in
    let after : ActsLawfully m (go now) = k now e (with_sender_may n b (with_sent (n.senders b)) h (h.unacked b small)) in
    record {
      here = after.here;
      outs = All-cons (IsLawfulOut m) (Sends (packet.Data (here n) b p.0 p.1)) (go now).outs ((subst (λ j. IsRoute j b) (sym e) r, fits), e) after.outs;
    }

let_go_lawfully : (k m : ℕ) (n : NodeState) (b : ℕ) → here n ≡ m → b < 16 → IsRoute m b → MayAct n → ActsLawfully m (lets_go k n b)
unfolding lets_go
let_go_lawfully zero m n b e small r h = record { here = e; outs = none_out m }
let_go_lawfully (suc k) m n b e small r h =
    lets_lawfully m n b (due (n.senders b)) (λ s. lets_go k s b) e small r h (due_fits (n.senders b) (h.unacked b small)) (λ s f g. let_go_lawfully k m s b f small r g)

pub arrives_lawfully : (n : NodeState) (a : ℕ) (l : Load Message) → MayArrive n a l → ActsLawfully (here n) (arrives n a l)
arrives_lawfully n a (Data k w) h =
    let r = after_arrival (n.receivers a) k w in
    acknowledged_lawfully (here n) (comes_in (with_receiver n a r) a k (arrival (n.receivers a) k w)) a (route_of (here n) a h.acts.here h.from.0 h.from.1)
    (in_lawfully (here n) (with_receiver n a r) a k (arrival (n.receivers a) k w) refl)
arrives_lawfully n a (Ack k) h =
    let s = with_acked (n.senders a) k in
    let now = with_sender n a s in
    let u = (n.senders a).unacked in
    let rest : ActsLawfully (here n) (lets_go window now a) =
    let_go_lawfully window (here n) now a refl h.from.0 (route_of (here n) a h.acts.here h.from.0 h.from.1)
    (with_sender_may n a s h.acts (All-drop IsLawfulMessage (k - (n.senders a).acked) u (h.acts.unacked a h.from.0))) in
    record { here = rest.here; outs = All-cons (IsLawfulOut (here n)) (Says (line.Acked a (here n) k)) (lets_go window now a).outs tt rest.outs }
