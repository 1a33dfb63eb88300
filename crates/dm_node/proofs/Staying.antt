-- What the events of a machine count on stays: what waits to be acknowledged can be put into packets.
use Rattle.dm_node.proofs.Names.{◌≡◌, ℕ, zero, suc, ◌-◌, ◌<◌, Bool, true, false, ◌==◌, List, [], ◌∷◌, sym, subst, inl, inr, arith, ⊤, if◌then◌else◌, All, Option, None, Some, eqb_tells, All-drop, All-head, All-push, All-tail, Message}
use Rattle.dm_node.proofs.Names.{IsLawfulMessage, Part, IsLawfulPart, Turned, Load, Data, Ack, Sending, due, window, with_acked, with_given, with_sent, Receiving, after_arrival, after_next, arrival, next, Arrived, Taken, Old, Early}
use Rattle.dm_node.proofs.Names.{Out, NodeState, here, with_message, with_receiver, with_sender, Acted, Acts, Goes, Worn, behind, then_, acts, arrives, comes_in, gives, is_worn, lets_go, lets_next, none_waits, routes}
use Rattle.dm_node.proofs.Names.{routes_away, routes_home, sends_due, takes_kept, takes_next, MayAct, MayArrive}
use Rattle.dm_node.proofs.Names.{refl, Kernel, KernelState, Node, GaveActs, Spoken, node_state}
use Rattle.dm_kernel.specs.Meets as kernel
use Rattle.dm_node.proofs.Here.{StaysAt}
use Rattle.dm_node.proofs.Parts.{kernel_is}
use Rattle.dm_kernel.specs.declared.part.Part.TheVariants as part
use Rattle.dm_node.specs.declared.out.Out.TheVariants as out

abbrev pub MayAfter : Acts → Type 0
MayAfter (Goes a) = MayAct a.state
MayAfter (Worn from to) = ⊤

pub with_sender_may : (n : NodeState) (b : ℕ) (s : Sending Message) → MayAct n → All IsLawfulMessage s.unacked → MayAct (with_sender n b s)
with_sender_may n b s h lawful =
    record {
      here = h.here;
      machines = h.machines;
      numbers = h.numbers;
      home = h.home;
      unacked = λ c k. elim (b == c) as (λ (t : Bool). All IsLawfulMessage (if t then s else n.senders c).unacked) [ true ↦ lawful | false ↦ h.unacked c k ];
    }

with_receiver_may : (n : NodeState) (a : ℕ) (r : Receiving Message) → MayAct n → MayAct (with_receiver n a r)
with_receiver_may n a r h = record { here = h.here; machines = h.machines; numbers = h.numbers; home = h.home; unacked = h.unacked }

with_message_may : (n : NodeState) (m : Message) → MayAct n → MayAct (with_message n m)
with_message_may n m h = record { here = h.here; machines = h.machines; numbers = h.numbers; home = h.home; unacked = h.unacked }

-- a kernel of the same machine, as a turn leaves it
pub with_kernel_may : (n : NodeState) (s : KernelState) → s.here ≡ here n → MayAct n → MayAct (record n { kernel = s })
with_kernel_may n s same h = record { here = subst (λ k. k < 16) (sym same) h.here; machines = h.machines; numbers = h.numbers; home = h.home; unacked = h.unacked }

pub turned_may : (n : NodeState) (k : Kernel) (parts : List Part) (o : Option Turned) → kernel.MeetsSome k parts o → StaysAt (here n) o → MayAct n → MayAct (record n { kernel = kernel.kernel_state k })
turned_may n k parts None met stays h = absurd met
turned_may n k parts (Some t) met stays h = subst (λ s. MayAct (record n { kernel = s })) (sym (kernel_is k t.state met.state)) (with_kernel_may n t.state stays h)

-- a message that is due goes out
pub due_may : (n : NodeState) (b : ℕ) (d : Option (ℕ × Message)) → b < 16 → MayAct n → MayAct (sends_due n b d).state
due_may n b None k h = h
due_may n b (Some p) k h = with_sender_may n b (with_sent (n.senders b)) h (h.unacked b k)

pub due_here : (n : NodeState) (b : ℕ) (d : Option (ℕ × Message)) → here (sends_due n b d).state ≡ here n
due_here n b None = refl
due_here n b (Some p) = refl

-- a message is given to a stream
pub given_may : (n : NodeState) (b : ℕ) (m : Message) → b < 16 → IsLawfulMessage m → MayAct n → MayAct (with_sender n b (with_given (n.senders b) m))
given_may n b m k l h = with_sender_may n b (with_given (n.senders b) m) h (All-push IsLawfulMessage (n.senders b).unacked m (h.unacked b k) l)

-- a message is routed
gives_may : (n : NodeState) (b : ℕ) (m : Message) (none : Bool) → b < 16 → IsLawfulMessage m → MayAct n → MayAfter (gives n b m (n.senders b) none)
gives_may n b m none k l h =
    let s = with_given (n.senders b) m in
    let given : MayAct (with_sender n b s) = given_may n b m k l h in
    elim none as (λ c. MayAfter (gives n b m (n.senders b) c)) [ true ↦ due_may (with_sender n b s) b (due s) k given | false ↦ given ]

away_may : (n : NodeState) (b : ℕ) (m : Message) → b < 16 → IsLawfulMessage m → MayAct n → MayAfter (routes_away n b m (n.senders b))
away_may n b m k l h =
    let s = n.senders b in
    elim (is_worn s) as (λ (c : Bool). MayAfter (if c then Worn (here n) b else gives n b m s (none_waits s))) [ true ↦ tt | false ↦ gives_may n b m (none_waits s) k l h ]

home_may : (n : NodeState) (m : Message) → MayAct n → MayAfter (routes_home n m (n.home == n.numbers))
home_may n m h =
    let small = h.home in
    elim (eqb_tells n.home n.numbers) [
      | inl e ↦ subst (λ c. MayAfter (routes_home n m c)) (sym e.0) tt
      | inr e ↦
          subst (λ c. MayAfter (routes_home n m c)) (sym e.0)
          (let d = e.1 in record { here = h.here; machines = h.machines; numbers = h.numbers; home = omega (arith, d, small); unacked = h.unacked })
    ]

pub routes_may : (n : NodeState) (m : Message) → IsLawfulMessage m → MayAct n → MayAfter (routes n m)
routes_may n m l h =
    let at = l.to.at in
    let k : m.to.at < 16 = omega (arith, at) in
    elim (m.to.at == here n) as (λ (c : Bool). MayAfter (if c then routes_home n m (n.home == n.numbers) else routes_away n m.to.at m (n.senders m.to.at))) [
      | true ↦ home_may n m h
      | false ↦ away_may n m.to.at m k l h
    ]

-- the machine of the code, once it has given this
pub gave_may : (a : Acts) (after : Node) (old new : Spoken) → GaveActs after old new a → MayAfter a → MayAct (node_state after)
gave_may (Goes a) after old new g h = subst MayAct (sym g.state) h
gave_may (Worn x y) after old new g h = absurd g

behind_may : (outs : List Out) (a : Acts) → MayAfter a → MayAfter (behind outs a)
behind_may outs (Goes a) h = h
behind_may outs (Worn x y) h = tt

then_may : (a : Acts) (go : NodeState → Acts) → MayAfter a → ((n : NodeState) → MayAct n → MayAfter (go n)) → MayAfter (then_ a go)
then_may (Goes a) go h k = behind_may a.outs (go a.state) (k a.state h)
then_may (Worn x y) go h k = tt

-- the parts of a turn
pub acts_may : (n : NodeState) (ps : List Part) → All IsLawfulPart ps → MayAct n → MayAfter (acts n ps)
acts_may n [] fit h = h
acts_may n (part.Says l ∷ ps) fit h = behind_may (out.Says l ∷ []) (acts n ps) (acts_may n ps (All-tail IsLawfulPart (part.Says l) ps fit) h)
acts_may n (part.Routes m ∷ ps) fit h =
    then_may (routes n m) (λ next. acts next ps) (routes_may n m (All-head IsLawfulPart (part.Routes m) ps fit) h) (λ next k. acts_may next ps (All-tail IsLawfulPart (part.Routes m) ps fit) k)

-- a turn of a kernel that stays on its machine
pub turn_may : (n : NodeState) (t : Turned) → t.state.here ≡ here n → All IsLawfulPart t.parts → MayAct n → MayAfter (acts (record n { kernel = t.state }) t.parts)
turn_may n t same fit h =
    acts_may (record n { kernel = t.state }) t.parts fit (with_kernel_may n t.state same h)

-- messages that came early are taken
next_may : (n : NodeState) (a : ℕ) (o : Option Message) (go : NodeState → Acted) → MayAct n → ((s : NodeState) → MayAct s → MayAct (go s).state) → MayAct (takes_next n a o go).state
next_may n a None go h k = h
next_may n a (Some m) go h k = k _ (with_message_may (with_receiver n a (after_next (n.receivers a))) m (with_receiver_may n a (after_next (n.receivers a)) h))

kept_may : (k : ℕ) (n : NodeState) (a : ℕ) → MayAct n → MayAct (takes_kept k n a).state
unfolding takes_kept
kept_may zero n a h = h
kept_may (suc k) n a h = next_may n a (next (n.receivers a)) (λ m. takes_kept k m a) h (λ m g. kept_may k m a g)

comes_may : (n : NodeState) (a k : ℕ) (x : Arrived Message) → MayAct n → MayAct (comes_in n a k x).state
comes_may n a k (Taken m) h = kept_may window (with_message n m) a (with_message_may n m h)
comes_may n a k Old h = h
comes_may n a k Early h = h

-- messages that wait go out
lets_may : (n : NodeState) (b : ℕ) (o : Option (ℕ × Message)) (go : NodeState → Acted) → b < 16 → MayAct n → ((s : NodeState) → MayAct s → MayAct (go s).state) → MayAct (lets_next n b o go).state
lets_may n b None go k h g = h
lets_may n b (Some p) go k h g = g _ (with_sender_may n b (with_sent (n.senders b)) h (h.unacked b k))

let_go_may : (k : ℕ) (n : NodeState) (b : ℕ) → b < 16 → MayAct n → MayAct (lets_go k n b).state
unfolding lets_go
let_go_may zero n b l h = h
let_go_may (suc k) n b l h = lets_may n b (due (n.senders b)) (λ m. lets_go k m b) l h (λ m g. let_go_may k m b l g)

-- a packet's load arrives
pub arrives_may : (n : NodeState) (a : ℕ) (l : Load Message) → MayArrive n a l → MayAct (arrives n a l).state
arrives_may n a (Data k m) h =
    let r = after_arrival (n.receivers a) k m in
    comes_may (with_receiver n a r) a k (arrival (n.receivers a) k m) (with_receiver_may n a r h.acts)
arrives_may n a (Ack k) h =
    let s = with_acked (n.senders a) k in
    let u = (n.senders a).unacked in
    let_go_may window (with_sender n a s) a h.from.0 (with_sender_may n a s h.acts (All-drop IsLawfulMessage (k - (n.senders a).acked) u (h.acts.unacked a h.from.0)))
