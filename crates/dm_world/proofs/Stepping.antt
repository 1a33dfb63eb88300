-- A machine has acted, and what it gave is said: that is the world's step.
use Rattle.dm_world.proofs.Names.{Bool, Pid, NodeState, if◌then◌else◌, refl, ended_in, Why, over_in, with_over, is_at, cond, common_steps, arith, pid_cmp, pid_eq, true, false, ◌≡◌, ℕ, ◌+◌, List, [], ◌∷◌, ◌++◌}
use Rattle.dm_world.proofs.Names.{length, sym, ap, subst, ◌∙◌, Vec, with_items, with_items_is, Global, Option, None, Some, Packet, Sent, bytes_at, after_mark, packets_on, Boot, IsValid, Line, Step, Node, arrives_packet}
use Rattle.dm_world.proofs.Names.{Acted, Acts, Goes, Worn, Spoken, so_far, spoken, World, ActedAt, ActedSome, AreNodes, IsWorld, Meets, MeetsSome, node_in, world_state, Says, WorldState, acted}
use Rattle.dm_world.proofs.Names.{delivers, turned}
use Rattle.dm_line.specs.declared.line.Line.TheVariants as line
use Rattle.dm_world.proofs.Delivering.{Arriving}
use Rattle.dm_node.proofs.States.{at_same}

-- what one directive makes of the world, but for its machines and its wires
pub record Grouped (old now : World) (kept : Pid → Option Why) : Type 0 where
  pub ended : (p : Pid) → ended_in now.ended p ≡ kept p
  pub groups : now.groups ≡ old.groups + 1
  pub boot : now.boot ≡ old.boot

abbrev pub with_wires : WorldState → (ℕ → ℕ → List Sent) → (Pid → Option Why) → WorldState
with_wires w before kept = record { nodes = w.nodes; wires = before; ended = kept; groups = w.groups }

-- the machine has spoken behind the head of the group
pub stepped : (old now : World) (ys : List Node) (wires : List (List Sent)) (kept : Pid → Option Why) (e : Step) (m : ℕ) (head said : List Line) (a : Acted)
    → ActedAt old.boot old.nodes.items ys m (so_far wires head) (so_far now.wires said) a → head ≡ line.Head e ∷ [] → now.nodes.items ≡ ys → Grouped old now kept
    → Meets (world_state now) said (Says (acted (with_wires (world_state old) (packets_on wires) kept) e m a))
stepped old now ys wires kept e m head said a h first are g =
    let nodes = λ (c : ℕ). ap (λ (b : Boot). node_in b now.nodes.items c) g.boot ∙ ap (λ ns. node_in old.boot ns c) are ∙ h.nodes c in
    let lines = h.outs.lines ∙ ap (λ ls. ls ++ (spoken (packets_on wires) a.outs).lines) first in
    record {
      happened = λ i. Says (record { state = record { nodes = λ c. nodes c i; wires = λ x y. h.outs.wires x y i; ended = λ p. g.ended p i; groups = g.groups i }; lines = lines i });
    }

pub world_stays : (old now : World) (ys : List Node) (m : ℕ) (before after : Spoken) (a : Acted) → IsWorld old → ActedAt old.boot old.nodes.items ys m before after a → now.nodes.items ≡ ys → now.boot ≡ old.boot
    → IsWorld now
world_stays old now ys m before after a h acts are boot =
    record {
      valid = subst IsValid (sym boot) h.valid;
      machines = ap length are ∙ acts.size ∙ h.machines ∙ ap (λ (b : Boot). length b.machines) (sym boot);
      nodes = subst AreNodes (sym are) acts.are;
    }

-- a turn, which may not have taken place
pub turn_stepped : (old now : World) (ys : List Node) (kept : Pid → Option Why) (e : Step) (m : ℕ) (head said : List Line) (o : Option Acts)
    → ActedSome old.boot old.nodes.items ys m (so_far old.wires head) (so_far now.wires said) o → head ≡ line.Head e ∷ [] → now.nodes.items ≡ ys → Grouped old now kept
    → MeetsSome (world_state now) said (turned (record (world_state old) { ended = kept }) e m o)
turn_stepped old now ys kept e m head said None h first are g = absurd h
turn_stepped old now ys kept e m head said (Some (Goes a)) h first are g = stepped old now ys old.wires kept e m head said a h first are g
turn_stepped old now ys kept e m head said (Some (Worn from to)) h first are g = absurd h

pub turn_world : (old now : World) (ys : List Node) (m : ℕ) (before after : Spoken) (o : Option Acts) → IsWorld old → ActedSome old.boot old.nodes.items ys m before after o → now.nodes.items ≡ ys
    → now.boot ≡ old.boot → IsWorld now
turn_world old now ys m before after None h acts are boot = absurd acts
turn_world old now ys m before after (Some (Goes a)) h acts are boot = world_stays old now ys m before after a h acts are boot
turn_world old now ys m before after (Some (Worn from to)) h acts are boot = absurd acts

pub acted_size : (b : Boot) (xs ys : List Node) (m : ℕ) (before after : Spoken) (o : Option Acts) → ActedSome b xs ys m before after o → length ys ≡ length xs
acted_size b xs ys m before after None h = absurd h
acted_size b xs ys m before after (Some (Goes a)) h = h.size
acted_size b xs ys m before after (Some (Worn from to)) h = absurd h

pub over_there : (b : Boot) (xs ys : List Node) (m : ℕ) (before after : Spoken) (o : Option Acts) → ActedSome b xs ys m before after o → (node_in b ys m).kernel.over ≡ over_in o
over_there b xs ys m before after None h = absurd h
over_there b xs ys m before after (Some (Goes a)) h = ap (λ (n : NodeState). n.kernel.over) (h.nodes m ∙ at_same (node_in b xs) m a.state)
over_there b xs ys m before after (Some (Worn from to)) h = absurd h

-- one more is kept, or none
same_at : (p q : Pid) → is_at (pid_cmp p) q ≡ pid_eq p q
same_at p q = grind (arith, common_steps)

either_is : (b : Bool) (x y : Option Why) → cond b x y ≡ (if b then x else y)
either_is true x y = refl
either_is false x y = refl

pub one_kept : (old : Pid → Option Why) (over : Option (Pid × Why)) (q : Pid) (y : Why) (n : Option Why) (p : Pid) → over ≡ Some (q, y) → n ≡ cond (is_at (pid_cmp q) p) (Some y) (old p) → n ≡ with_over old over p
one_kept old over q y n p is e =
    e ∙ either_is (is_at (pid_cmp q) p) (Some y) (old p) ∙ ap (λ (b : Bool). if b then Some y else old p) (same_at q p) ∙ sym (ap (λ (o : Option (Pid × Why)). with_over old o p) is)

pub none_kept : (old : Pid → Option Why) (over : Option (Pid × Why)) (p : Pid) → over ≡ None → old p ≡ with_over old over p
none_kept old over p is = sym (ap (λ (o : Option (Pid × Why)). with_over old o p) is)

-- what is written into the machines stands there
pub written : (v : Vec Node Global) (ys : List Node) → length ys ≡ length v.items → (with_items v ys).items ≡ ys
written v ys e = with_items_is v ys (e ∙ sym v.ok.0)

-- the packet came
pub took : (old now : World) (ys : List Node) (marked : List (List Sent)) (e : Step) (a c k : ℕ) (p : Packet) (head said : List Line) → Arriving (world_state old) e a c k p
    → ((x y : ℕ) → packets_on marked x y ≡ after_mark (packets_on old.wires) a c k x y)
    → ActedAt old.boot old.nodes.items ys c (so_far marked head) (so_far now.wires said) (arrives_packet (node_in old.boot old.nodes.items c) p) → head ≡ line.Head e ∷ [] → now.nodes.items ≡ ys
    → Grouped old now (ended_in old.ended) → MeetsSome (world_state now) said (delivers (world_state old) e a c k (bytes_at (packets_on old.wires a c) k))
took old now ys marked e a c k p head said h marks acts first are g =
    let d = arrives_packet (node_in old.boot old.nodes.items c) p in
    let same : packets_on marked ≡ after_mark (packets_on old.wires) a c k = λ i. λ x y. marks x y i in
    subst (MeetsSome (world_state now) said) (sym h.step)
    (subst (λ f. Meets (world_state now) said (Says (acted (with_wires (world_state old) f (ended_in old.ended)) e c d))) same (stepped old now ys marked (ended_in old.ended) e c head said d acts first are g))
