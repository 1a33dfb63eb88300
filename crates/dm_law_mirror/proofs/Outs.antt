-- What a machine sends goes from it, and what that puts on the wires.
use Rattle.dm_law_mirror.proofs.Names.{◌≡◌, ◌≢◌, ℕ, zero, suc, ◌==◌, Bool, List, [], ◌∷◌, ◌++◌, refl, ap, ◌∙◌, sym, subst, append_assoc, arith, ⊤, if◌then◌else◌, All, Option, None, Some, nat_tests, append-nil, All-nil, All-cons, All-append}
use Rattle.dm_law_mirror.proofs.Names.{Message, Packet, Line, spelling, Sent, Data, Ack, window, due, outstanding, with_acked, arrival, after_arrival, next, after_next, NodeState, here, with_sender, with_message, with_receiver, Out, Sends}
use Rattle.dm_law_mirror.proofs.Names.{Acted, Acts, Goes, Worn, then_, acts, routes, sends, sends_due, count_out, again, first_out, all_out, acknowledges, before, takes_next, takes_kept, then_acknowledges, comes_in, lets_next, lets_go}
use Rattle.dm_law_mirror.proofs.Names.{with_packet, spoken, IsFresh, Part}
use Rattle.dm_node.proofs.Names.{with_sent}
use Rattle.dm_node.proofs.Names.{behind}
use Rattle.dm_wire.specs.Sent.{just_put}
use Rattle.dm_stream.specs.Packets.{Load}
use Rattle.dm_node.specs.declared.out.Out.TheVariants.{Says}
use Rattle.dm_node.specs.Acts as node

abbrev pub from_of : Packet → ℕ
from_of (Packet.Data from to k m) = from
from_of (Packet.Ack from to k) = from

abbrev to_of : Packet → ℕ
to_of (Packet.Data from to k m) = to
to_of (Packet.Ack from to k) = to

-- all packets go from machine m
abbrev pub AreFrom : ℕ → List Out → Type 0
AreFrom m [] = ⊤
AreFrom m (Says l ∷ outs) = AreFrom m outs
AreFrom m (Sends p ∷ outs) = (from_of p ≡ m) × AreFrom m outs

AreFrom-append : (m : ℕ) (xs ys : List Out) → AreFrom m xs → AreFrom m ys → AreFrom m (xs ++ ys)
AreFrom-append m [] ys h k = k
AreFrom-append m (Says l ∷ xs) ys h k = AreFrom-append m xs ys h k
AreFrom-append m (Sends p ∷ xs) ys h k = (h.0, AreFrom-append m xs ys h.1 k)

-- machine m stays machine m, and its packets go from it
pub record IsFrom (m : ℕ) (a : Acted) : Type 0 where
  pub here : here a.state ≡ m
  pub outs : AreFrom m a.outs

abbrev pub ActsFrom : ℕ → Acts → Type 0
ActsFrom m (Goes a) = IsFrom m a
ActsFrom m (Worn from to) = ⊤

behind_from : (m : ℕ) (outs : List Out) (a : Acts) → AreFrom m outs → ActsFrom m a → ActsFrom m (behind outs a)
behind_from m outs a h k = grind (arith, nat_tests, AreFrom-append)

then_from : (m : ℕ) (a : Acts) (go : NodeState → Acts) → ActsFrom m a → ((n : NodeState) → here n ≡ m → ActsFrom m (go n)) → ActsFrom m (then_ a go)
then_from m a go h k = grind (arith, nat_tests, behind_from)

-- a message that is routed
due_from : (n : NodeState) (b : ℕ) (o : Option (ℕ × Message)) → IsFrom (here n) (sends_due n b o)
due_from n b o = grind (arith, nat_tests)

routes_from : (n : NodeState) (m : Message) → ActsFrom (here n) (routes n m)
routes_from n m = grind (arith, nat_tests, due_from, behind_from)

pub acts_from : (m : ℕ) (ps : List Part) (n : NodeState) → here n ≡ m → ActsFrom m (acts n ps)
acts_from m [] n is = record { here = is; outs = tt }
acts_from m (Part.Says l ∷ ps) n is = behind_from m (Says l ∷ []) (acts n ps) tt (acts_from m ps n is)
acts_from m (Part.Routes x ∷ ps) n is = then_from m (routes n x) (λ after. acts after ps) (subst (λ (k : ℕ). ActsFrom k (routes n x)) is (routes_from n x)) (λ after same. acts_from m ps after same)

-- a tick
again_from : (n : NodeState) (b : ℕ) (o : Option (ℕ × Message)) → AreFrom (here n) (again n b o)
again_from n b o = grind (arith, nat_tests)

first_from : (n : NodeState) (b k : ℕ) → AreFrom (here n) (first_out n b k)
first_from n b zero = tt
first_from n b (suc k) = AreFrom-append (here n) (first_out n b k) (again n b (outstanding (n.senders b) k)) (first_from n b k) (again_from n b (outstanding (n.senders b) k))

all_from : (n : NodeState) (b : ℕ) → AreFrom (here n) (all_out n b)
all_from n zero = tt
all_from n (suc b) =
    let outs = first_out n b (count_out (n.senders b)) in
    let if_from : AreFrom (here n) (if (here n == b) then [] else outs) = grind (arith, nat_tests, first_from n b (count_out (n.senders b))) in
    AreFrom-append (here n) (all_out n b) (if here n == b then [] else outs) (all_from n b) if_from

pub tick_from : (m : ℕ) (n : NodeState) → here n ≡ m → IsFrom m (node.tick n)
tick_from m n is = record { here = is; outs = subst (λ (k : ℕ). AreFrom k (all_out n n.machines)) is (all_from n n.machines) }

-- an arrival
before_from : (m : ℕ) (outs : List Out) (a : Acted) → AreFrom m outs → IsFrom m a → IsFrom m (before outs a)
before_from m outs a h k = record { here = k.here; outs = AreFrom-append m outs a.outs h k.outs }

next_from : (m : ℕ) (n : NodeState) (a : ℕ) (o : Option Message) (go : NodeState → Acted) → here n ≡ m → ((x : NodeState) → here x ≡ m → IsFrom m (go x)) → IsFrom m (takes_next n a o go)
next_from m n a None go is k = record { here = is; outs = tt }
next_from m n a (Some x) go is k =
    let after = with_message (with_receiver n a (after_next (n.receivers a))) x in
    before_from m (Says (Line.Taken a (here n) (n.receivers a).count) ∷ []) (go after) tt (k after is)

kept_from : (m k : ℕ) (n : NodeState) (a : ℕ) → here n ≡ m → IsFrom m (takes_kept k n a)
unfolding takes_kept
kept_from m zero n a is = record { here = is; outs = tt }
kept_from m (suc k) n a is = next_from m n a (next (n.receivers a)) (λ x. takes_kept k x a) is (λ x same. kept_from m k x a same)

lets_from : (m : ℕ) (n : NodeState) (b : ℕ) (o : Option (ℕ × Message)) (go : NodeState → Acted) → here n ≡ m → ((x : NodeState) → here x ≡ m → IsFrom m (go x)) → IsFrom m (lets_next n b o go)
lets_from m n b None go is k = record { here = is; outs = tt }
lets_from m n b (Some p) go is k =
    let after = with_sender n b (with_sent (n.senders b)) in
    before_from m (sends n b (Data p.0 p.1) ∷ []) (go after) (is, tt) (k after is)

go_from : (m k : ℕ) (n : NodeState) (b : ℕ) → here n ≡ m → IsFrom m (lets_go k n b)
unfolding lets_go
go_from m zero n b is = record { here = is; outs = tt }
go_from m (suc k) n b is = lets_from m n b (due (n.senders b)) (λ x. lets_go k x b) is (λ x same. go_from m k x b same)

pub arrives_from : (m : ℕ) (n : NodeState) (a : ℕ) (l : Load Message) → here n ≡ m → IsFrom m (node.arrives n a l)
arrives_from m n a (Data k x) is =
    let after = with_receiver n a (after_arrival (n.receivers a) k x) in
    let what = arrival (n.receivers a) k x in
    let acknowledged_from : (m : ℕ) (d : Acted) (a : ℕ) → IsFrom m d → IsFrom m (then_acknowledges d a) = λ m d a h. record { here = h.here; outs = AreFrom-append m d.outs (acknowledges d.state a) h.outs (h.here, tt) } in
    acknowledged_from m (comes_in after a k what) a (let e_ : IsFrom m (comes_in after a k what) = grind (arith, nat_tests, before_from, kept_from) in e_)
arrives_from m n a (Ack k) is =
    let after = with_sender n a (with_acked (n.senders a) k) in
    before_from m (Says (Line.Acked a (here n) k) ∷ []) (lets_go window after a) tt (go_from m window after a is)

-- the packets for machine c, as they are put on the wire
abbrev pub packets_to : ℕ → List Out → List Sent
packets_to c [] = []
packets_to c (Says l ∷ outs) = packets_to c outs
packets_to c (Sends p ∷ outs) = (if to_of p == c then just_put (spelling p) ∷ [] else []) ++ packets_to c outs

fresh_one : (c : Bool) (bytes : List ℕ) → All IsFresh (if c then just_put bytes ∷ [] else [])
fresh_one c bytes = grind (arith, nat_tests, All-cons, All-nil)

pub all_fresh : (c : ℕ) (outs : List Out) → All IsFresh (packets_to c outs)
all_fresh c [] = All-nil IsFresh
all_fresh c (Says l ∷ outs) = all_fresh c outs
all_fresh c (Sends p ∷ outs) = All-append IsFresh (if to_of p == c then just_put (spelling p) ∷ [] else []) (packets_to c outs) (fresh_one (to_of p == c) (spelling p)) (all_fresh c outs)

packet_off : (wires : ℕ → ℕ → List Sent) (p : Packet) (x y : ℕ) → x ≢ from_of p → with_packet wires p x y ≡ wires x y
packet_off wires p x y apart = grind (arith, nat_tests)

-- the wires behind what a machine gives
pub spoken_off : (m : ℕ) (outs : List Out) (wires : ℕ → ℕ → List Sent) (x y : ℕ) → AreFrom m outs → x ≢ m → (spoken wires outs).wires x y ≡ wires x y
spoken_off m [] wires x y h apart = refl
spoken_off m (Says l ∷ outs) wires x y h apart = spoken_off m outs wires x y h apart
spoken_off m (Sends p ∷ outs) wires x y h apart = spoken_off m outs (with_packet wires p) x y h.1 apart ∙ packet_off wires p x y (λ e. apart (e ∙ h.0))

pub spoken_on : (m : ℕ) (outs : List Out) (wires : ℕ → ℕ → List Sent) (y : ℕ) → AreFrom m outs → (spoken wires outs).wires m y ≡ wires m y ++ packets_to y outs
spoken_on m [] wires y h = sym (append-nil (wires m y))
spoken_on m (Says l ∷ outs) wires y h = spoken_on m outs wires y h
spoken_on m (Sends p ∷ outs) wires y h =
    let one = if to_of p == y then just_put (spelling p) ∷ [] else [] in
    let packet_on : with_packet wires p (from_of p) y ≡ wires (from_of p) y ++ (if to_of p == y then just_put (spelling p) ∷ [] else []) = grind (arith, nat_tests, append-nil) in
    let put : with_packet wires p m y ≡ wires m y ++ one = subst (λ (k : ℕ). with_packet wires p k y ≡ wires k y ++ one) h.0 packet_on in
    spoken_on m outs (with_packet wires p) y h.1 ∙ (ap (λ (ps : List Sent). ps ++ packets_to y outs) put ∙ append_assoc (wires m y) one (packets_to y outs))
