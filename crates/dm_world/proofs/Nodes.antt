-- The machines of the code: one of them acts, and the others stay.
use Rattle.dm_world.proofs.Names.{◌≡◌, ◌≢◌, ℕ, suc, ◌+◌, ◌<◌, ◌≤◌, Bool, List, [], ◌∷◌, ◌++◌, length, refl, sym, ap, subst, ◌∙◌, inl, inr, arith, length-set, get_or, get_or-set_same, get_or-set_other, length-append, get_or-append_seam}
use Rattle.dm_world.proofs.Names.{get_or_append_left, set, ◌⊎◌, if◌then◌else◌, slice_get, slice_index_or, Option, None, Some, Err, eqb_tells, leb_tells, leb-true, get_or_from_slice_get, slice_get-get_or, slice_get_cases}
use Rattle.dm_world.proofs.Names.{slice_get_past, slice_get_within, Boot, Packet, Data, Ack, at_machine, Node, Stop, NodeState, here, node_opened, Acted, Acts, Goes, Worn, arrives_packet, MayArrivePacket, arrives_lawfully}
use Rattle.dm_world.proofs.Names.{option_map_or, ActsLawfully, AnswersSome, Gave, Ok, Result, Spoke, Spoken, World, ActedAt, AreNodes, IsNode, IsWorld, TurnAnswers, node_in, node_state}
use Rattle.dm_packet.specs.declared.Packet.TheVariants as packet
use Rattle.dm_node.specs.declared.stop.Stop.TheVariants as stop

-- a list with one place written
pub set_get_same : {X : Type 0} (xs : List X) (i : ℕ) (v : X) → i < length xs → slice_get (set xs i v) i ≡ Some v
set_get_same xs i v h = slice_get-get_or (set xs i v) i v (rw (length-set xs i v) h) ∙ ap Some (get_or-set_same xs i v v h)

pub set_get_other : {X : Type 0} (xs : List X) (i j : ℕ) (v : X) → j ≢ i → slice_get (set xs i v) j ≡ slice_get xs j
set_get_other xs i j v apart =
    elim (leb_tells (suc j) (length xs)) [
      | inl e ↦
          let within : j < length xs = e.1 in
          slice_get-get_or (set xs i v) j v (rw (length-set xs i v) within) ∙ ap Some (get_or-set_other xs i j v v apart) ∙ sym (slice_get-get_or xs j v within)
      | inr e ↦
          let past : length xs ≤ j = omega (arith, e.1) in
          slice_get_past (set xs i v) j (rw (length-set xs i v) past) ∙ sym (slice_get_past xs j past)
    ]

abbrev node_or : Boot → ℕ → Option Node → NodeState
node_or b m o = option_map_or node_state o (node_opened b m)

-- the machine at a place
pub node_there : (b : Boot) (nodes : List Node) (m : ℕ) (n : Node) → slice_get nodes m ≡ Some n → node_in b nodes m ≡ node_state n
unfolding node_in
node_there b nodes m n e = ap (node_or b m) e

pub node_past : (b : Boot) (nodes : List Node) (m : ℕ) → slice_get nodes m ≡ None → node_in b nodes m ≡ node_opened b m
unfolding node_in
node_past b nodes m e = ap (node_or b m) e

pub node_at : (b : Boot) (nodes : List Node) (i m : ℕ) (d : Node) → i ≡ m → m < length nodes → node_state (slice_index_or nodes i d) ≡ node_in b nodes m
node_at b nodes i m d e h =
    subst (λ (k : ℕ). node_state (slice_index_or nodes k d) ≡ node_in b nodes m) (sym e) (sym (node_there b nodes m (slice_index_or nodes m d) (slice_get-get_or nodes m d h)))

pub is_node_at : (nodes : List Node) (i m : ℕ) (d : Node) → i ≡ m → m < length nodes → AreNodes nodes → IsNode m (slice_index_or nodes i d)
is_node_at nodes i m d e h are = subst (λ (k : ℕ). IsNode m (slice_index_or nodes k d)) (sym e) (are.each m (slice_index_or nodes m d) (slice_get-get_or nodes m d h))

-- one machine is written
pub node_set : (b : Boot) (nodes : List Node) (m : ℕ) (x : Node) → m < length nodes → (c : ℕ) → node_in b (set nodes m x) c ≡ at_machine (node_in b nodes) m (node_state x) c
unfolding node_in
node_set b nodes m x h c =
    elim (eqb_tells m c) [
      | inl e ↦
          ap (λ (k : ℕ). node_or b c (slice_get (set nodes m x) k)) (sym e.1)
          ∙ ap (node_or b c) (set_get_same nodes m x h)
          ∙ sym (ap (λ (t : Bool). if t then node_state x else node_or b c (slice_get nodes c)) e.0)
      | inr e ↦
          ap (node_or b c) (set_get_other nodes m c x (λ same. e.1 (sym same)))
          ∙ sym (ap (λ (t : Bool). if t then node_state x else node_or b c (slice_get nodes c)) e.0)
    ]

some_same : {X : Type 0} (x y : X) → Some x ≡ Some y → x ≡ y
some_same x y e = cc

are_set : (nodes : List Node) (m : ℕ) (x : Node) → m < length nodes → AreNodes nodes → IsNode m x → AreNodes (set nodes m x)
are_set nodes m x h are is =
    record {
      each = λ c n there.
          elim (eqb_tells m c) [
            | inl e ↦
                let same : x ≡ n = some_same x n (sym (set_get_same nodes m x h) ∙ ap (slice_get (set nodes m x)) e.1 ∙ there) in
                subst (λ k. IsNode k n) e.1 (subst (IsNode m) same is)
            | inr e ↦ are.each c n (sym (set_get_other nodes m c x (λ same. e.1 (sym same))) ∙ there)
          ];
    }

-- a machine that acts lawfully keeps its number
pub kept_here : (n : Node) (m : ℕ) (a : Acted) → node_state n ≡ a.state → ActsLawfully m a → n.kernel.here ≡ m
kept_here n m a e h = ap here e ∙ h.here

pub acted : (b : Boot) (nodes : List Node) (i m : ℕ) (x : Node) (old new : Spoken) (a : Acted) → i ≡ m → m < length nodes → AreNodes nodes → Gave x old new a → ActsLawfully m a
    → ActedAt b nodes (set nodes i x) m old new a
acted b nodes i m x old new a same h are gave lawful =
    subst (λ (k : ℕ). ActedAt b nodes (set nodes k x) m old new a) (sym same)
    (record {
      nodes = λ c. node_set b nodes m x h c ∙ ap (λ (s : NodeState). at_machine (node_in b nodes) m s c) gave.state;
      size = length-set nodes m x;
      are = are_set nodes m x h are (record { streams = gave.streams; here = kept_here x m a gave.state lawful });
      outs = gave.outs;
    })

-- the machine at a place has its number
pub here_at : (b : Boot) (nodes : List Node) (m : ℕ) (d : Node) → m < length nodes → AreNodes nodes → here (node_in b nodes m) ≡ m
here_at b nodes m d h are = sym (ap here (node_at b nodes m m d refl h)) ∙ (is_node_at nodes m m d refl h are).here

-- a turn, which may not have taken place
pub acted_some : (r : Result Unit Stop) (b : Boot) (nodes : List Node) (i m : ℕ) (x : Node) (old new : Spoken) (o : Option Acts) → i ≡ m → m < length nodes → AreNodes nodes → AnswersSome r x old new o
    → ((a : Acted) → o ≡ Some (Goes a) → ActsLawfully m a) → TurnAnswers r b nodes (set nodes i x) m old new o
acted_some (Ok done) b nodes i m x old new None same h are gave lawful = gave
acted_some (Ok done) b nodes i m x old new (Some (Goes a)) same h are gave lawful = acted b nodes i m x old new a same h are gave (lawful a refl)
acted_some (Ok done) b nodes i m x old new (Some (Worn from to)) same h are gave lawful = gave
acted_some (Err (stop.Worn from to)) b nodes i m x old new o same h are gave lawful = gave
acted_some (Err (stop.NoMemory e)) b nodes i m x old new o same h are gave lawful = tt

-- a machine that acts and stays as it is
at_same : {X : Type 0} (f : ℕ → X) (m c : ℕ) → f c ≡ at_machine f m (f m) c
at_same f m c =
    elim (eqb_tells m c) [
      | inl e ↦ ap f (sym e.1) ∙ sym (ap (λ (t : Bool). if t then f m else f c) e.0)
      | inr e ↦ sym (ap (λ (t : Bool). if t then f m else f c) e.0)
    ]

pub acted_still : (b : Boot) (nodes : List Node) (m : ℕ) (old new : Spoken) (a : Acted) → AreNodes nodes → a.state ≡ node_in b nodes m → Spoke old new a.outs → ActedAt b nodes nodes m old new a
acted_still b nodes m old new a are same e =
    record { nodes = λ c. at_same (node_in b nodes) m c ∙ ap (λ (s : NodeState). at_machine (node_in b nodes) m s c) (sym same); size = refl; are = are; outs = e }

-- a packet comes
pub packet_lawfully : (n : NodeState) (p : Packet) → MayArrivePacket n p → ActsLawfully (here n) (arrives_packet n p)
packet_lawfully n (packet.Data from to seq m) h = arrives_lawfully n from (Data seq m) h.0
packet_lawfully n (packet.Ack from to count) h = arrives_lawfully n from (Ack count) h.0

-- each machine of a world has its number
pub all_here : (w : World) → IsWorld w → (m : ℕ) → m < length w.boot.machines → here (node_in w.boot w.nodes.items m) ≡ m
all_here w h m within =
    elim ((slice_get_cases w.nodes.items m).1) [
      | inl r ↦ ap here (node_there w.boot w.nodes.items m r.0 r.2) ∙ (h.nodes.each m r.0 r.2).here
      | inr r ↦ absurd (let e = h.machines in let p = r.0 in omega (arith, e, p))
    ]

-- one more machine at the end
pub last_or : {X : Type 0} (xs : List X) (x n : X) (m : ℕ) → slice_get (xs ++ x ∷ []) m ≡ Some n → ((m < length xs) × (slice_get xs m ≡ Some n)) ⊎ ((m ≡ length xs) × (x ≡ n))
last_or xs x n m e =
    let within : m < length (xs ++ x ∷ []) = slice_get_within (xs ++ x ∷ []) m n e in
    let size : length (xs ++ x ∷ []) ≡ length xs + 1 = length-append xs (x ∷ []) in
    let at : get_or (xs ++ x ∷ []) m n ≡ n = get_or_from_slice_get (xs ++ x ∷ []) m n n e in
    elim (leb_tells (suc m) (length xs)) [
      | inl h ↦
          let small : m < length xs = h.1 in
          inl (small, slice_get-get_or xs m n small ∙ ap Some (sym (get_or_append_left xs (x ∷ []) n m small) ∙ at))
      | inr h ↦
          let large = h.1 in
          let last : m ≡ length xs = omega (arith, within, size, large) in
          inr (last, sym (get_or-append_seam xs x [] n) ∙ ap (λ k. get_or (xs ++ x ∷ []) k n) (sym last) ∙ at)
    ]

pub are_pushed : (nodes : List Node) (x : Node) (m : ℕ) → length nodes ≡ m → AreNodes nodes → IsNode m x → AreNodes (nodes ++ x ∷ [])
are_pushed nodes x m size are is =
    record {
      each = λ c n there.
          elim (last_or nodes x n c there) [
            | inl r ↦ are.each c n r.1
            | inr r ↦ subst (λ y. IsNode c y) r.1 (subst (λ k. IsNode k x) (sym (r.0 ∙ size)) is)
          ];
    }

pub opened_pushed : (b : Boot) (nodes : List Node) (x : Node) (m : ℕ) → length nodes ≡ m → ((c : ℕ) (n : Node) → slice_get nodes c ≡ Some n → node_state n ≡ node_opened b c) → node_state x ≡ node_opened b m
    → (c : ℕ) (n : Node) → slice_get (nodes ++ x ∷ []) c ≡ Some n → node_state n ≡ node_opened b c
opened_pushed b nodes x m size all is c n there =
    elim (last_or nodes x n c there) [
      | inl r ↦ all c n r.1
      | inr r ↦ ap node_state (sym r.1) ∙ is ∙ ap (node_opened b) (sym (r.0 ∙ size))
    ]

-- the machines of the boot file
pub all_opened : (b : Boot) (nodes : List Node) → ((c : ℕ) (n : Node) → slice_get nodes c ≡ Some n → node_state n ≡ node_opened b c) → (m : ℕ) → node_in b nodes m ≡ node_opened b m
all_opened b nodes h m =
    elim ((slice_get_cases nodes m).1) [
      | inl r ↦ node_there b nodes m r.0 r.2 ∙ h m r.0 r.2
      | inr r ↦ node_past b nodes m r.1
    ]

pub few_machines : (w : World) → IsWorld w → length w.boot.machines ≤ 16
few_machines w h = leb-true (length w.boot.machines) 16 h.valid.few_machines

pub small : (m : ℕ) → m < 16 → m ≤ 15
small m h = omega (arith, h)
