-- What comes of a packet that arrives, one message after another.
use Rattle.dm_node.proofs.Names.{◌≡◌, ℕ, suc, ◌+◌, ◌-◌, ◌<◌, ◌≤◌, Bool, true, false, List, [], ◌∷◌, refl, sym, ap, subst, inl, inr, ◌∙◌, arith, if◌then◌else◌, is_some, Option, None, Some, eqb_tells, Message}
use Rattle.dm_node.proofs.Names.{at_machine, due, window, Receiving, moved_up, next, after_next, Arrived, Taken, Old, Early, Node, Out, Says, NodeState, here, with_message, with_receiver, Acted, acknowledges, before, comes, comes_in, lets_go, lets_next}
use Rattle.dm_node.proofs.Names.{sends_due, takes_kept, takes_next, then_acknowledges, Gave, HasStreams, Spoke, Spoken, node_state}
use Rattle.dm_line.specs.declared.line.Line.TheVariants as line
use Rattle.dm_node.proofs.Speaking.{spoke_more, spoke_none}

-- with these before the rest
pub gave_before : (after : Node) (old mid new : Spoken) (outs : List Out) (a : Acted) → Spoke old mid outs → Gave after mid new a → Gave after old new (before outs a)
gave_before after old mid new outs a e g = record { state = g.state; streams = g.streams; outs = spoke_more old mid new outs a.outs e g.outs }

-- and with an acknowledgement behind them
pub gave_acknowledged : (after : Node) (old mid new : Spoken) (a : Acted) (from : ℕ) → Gave after old mid a → Spoke mid new (acknowledges (node_state after) from)
    → Gave after old new (then_acknowledges a from)
gave_acknowledged after old mid new a from g e =
    record {
      state = g.state;
      streams = g.streams;
      outs = spoke_more old mid new a.outs (acknowledges a.state from) g.outs (subst (λ n. Spoke mid new (acknowledges n from)) g.state e);
    }

-- a stream that stays
same_everywhere : {X : Type 0} (f : ℕ → X) (a : ℕ) (x : X) → x ≡ f a → (c : ℕ) → at_machine f a x c ≡ f c
same_everywhere f a x e c =
    elim (eqb_tells a c) [
      | inl t ↦ ap (λ (b : Bool). if b then x else f c) t.0 ∙ e ∙ ap f t.1
      | inr t ↦ ap (λ (b : Bool). if b then x else f c) t.0
    ]

receiver_stays : (n : NodeState) (a : ℕ) (r : Receiving Message) → r ≡ n.receivers a → with_receiver n a r ≡ n
receiver_stays n a r e = λ i. record n { receivers = λ c. same_everywhere n.receivers a r e c i }

none_after : (r : Receiving Message) → next r ≡ None → after_next r ≡ r
none_after r e =
    ap (λ (o : Option Message). record { count = if is_some o then r.count + 1 else r.count; kept = (after_next r).kept }) e
    ∙ ap (λ (o : Option Message). record { count = r.count; kept = if is_some o then moved_up r.kept else r.kept }) e

-- so many rounds are left
rounds : (i : ℕ) → i < 8 → window - i ≡ suc (window - (i + 1))
rounds i h = omega arith

-- one more message that came early is taken
taken_next : (n mid : NodeState) (after : Node) (a : ℕ) (m : Message) (o : Option Message) (go : NodeState → Acted) (old between new : Spoken) → o ≡ Some m
    → mid ≡ with_message (with_receiver n a (after_next (n.receivers a))) m → Spoke old between (Says (line.Taken a (here n) (n.receivers a).count) ∷ [])
    → Gave after between new (go mid) → Gave after old new (takes_next n a o go)
taken_next n mid after a m o go old between new some state outs g =
    let all = Says (line.Taken a (here n) (n.receivers a).count) ∷ [] in
    let now = with_message (with_receiver n a (after_next (n.receivers a))) m in
    subst (λ x. Gave after old new (takes_next n a x go)) (sym some)
    (gave_before after old between new all (go now) outs (subst (λ s. Gave after between new (go s)) state g))

pub one_taken : (i : ℕ) (n mid : NodeState) (after : Node) (a : ℕ) (m : Message) (old between new : Spoken) → i < 8 → next (n.receivers a) ≡ Some m
    → mid ≡ with_message (with_receiver n a (after_next (n.receivers a))) m → Spoke old between (Says (line.Taken a (here n) (n.receivers a).count) ∷ [])
    → Gave after between new (takes_kept (window - (i + 1)) mid a) → Gave after old new (takes_kept (window - i) n a)
unfolding takes_kept
one_taken i n mid after a m old between new h some state outs g =
    subst (λ k. Gave after old new (takes_kept k n a)) (sym (rounds i h))
    (taken_next n mid after a m (next (n.receivers a)) (λ s. takes_kept (window - (i + 1)) s a) old between new some state outs g)

-- none is left
pub none_taken : (i : ℕ) (n : NodeState) (after : Node) (a : ℕ) (old : Spoken) → i < 8 → next (n.receivers a) ≡ None → node_state after ≡ with_receiver n a (after_next (n.receivers a))
    → HasStreams after → Gave after old old (takes_kept (window - i) n a)
unfolding takes_kept
none_taken i n after a old h none state streams =
    subst (λ k. Gave after old old (takes_kept k n a)) (sym (rounds i h))
    (subst (λ x. Gave after old old (takes_next n a x (λ s. takes_kept (window - (i + 1)) s a))) (sym none)
    (record { state = state ∙ receiver_stays n a (after_next (n.receivers a)) (none_after (n.receivers a) none); streams = streams; outs = spoke_none old }))

-- all rounds are over
pub rounds_over : (i : ℕ) (n : Node) (a : ℕ) (old : Spoken) → 8 ≤ i → HasStreams n → Gave n old old (takes_kept (window - i) (node_state n) a)
unfolding takes_kept
rounds_over i n a old h streams =
    let e : window - i ≡ 0 = omega arith in
    subst (λ k. Gave n old old (takes_kept k (node_state n) a)) (sym e) (record { state = refl; streams = streams; outs = spoke_none old })

-- one more message that waits goes out
goes_next : (n : NodeState) (mid after : Node) (b : ℕ) (o : Option (ℕ × Message)) (go : NodeState → Acted) (old between new : Spoken) → is_some o ≡ true
    → Gave mid old between (sends_due n b o) → Gave after between new (go (node_state mid)) → Gave after old new (lets_next n b o go)
goes_next n mid after b None go old between new some g rest = absurd (let e : false ≡ true = some in cc)
goes_next n mid after b (Some p) go old between new some g rest =
    let now = sends_due n b (Some p) in
    gave_before after old between new now.outs (go now.state) g.outs (subst (λ s. Gave after between new (go s)) g.state rest)

pub one_goes : (i : ℕ) (n : NodeState) (mid after : Node) (b : ℕ) (old between new : Spoken) → i < 8 → is_some (due (n.senders b)) ≡ true
    → Gave mid old between (sends_due n b (due (n.senders b))) → Gave after between new (lets_go (window - (i + 1)) (node_state mid) b) → Gave after old new (lets_go (window - i) n b)
unfolding lets_go
one_goes i n mid after b old between new h some g rest =
    subst (λ k. Gave after old new (lets_go k n b)) (sym (rounds i h))
    (goes_next n mid after b (due (n.senders b)) (λ s. lets_go (window - (i + 1)) s b) old between new some g rest)

none_next : (n : NodeState) (mid : Node) (b : ℕ) (o : Option (ℕ × Message)) (go : NodeState → Acted) (old between : Spoken) → is_some o ≡ false
    → Gave mid old between (sends_due n b o) → Gave mid old between (lets_next n b o go)
none_next n mid b None go old between none g = g
none_next n mid b (Some p) go old between none g = absurd (let e : true ≡ false = none in cc)

pub none_goes : (i : ℕ) (n : NodeState) (mid : Node) (b : ℕ) (old between : Spoken) → i < 8 → is_some (due (n.senders b)) ≡ false
    → Gave mid old between (sends_due n b (due (n.senders b))) → Gave mid old between (lets_go (window - i) n b)
unfolding lets_go
none_goes i n mid b old between h none g =
    subst (λ k. Gave mid old between (lets_go k n b)) (sym (rounds i h))
    (none_next n mid b (due (n.senders b)) (λ s. lets_go (window - (i + 1)) s b) old between none g)

pub none_may_go : (i : ℕ) (n : Node) (b : ℕ) (old : Spoken) → 8 ≤ i → HasStreams n → Gave n old old (lets_go (window - i) (node_state n) b)
unfolding lets_go
none_may_go i n b old h streams =
    let e : window - i ≡ 0 = omega arith in
    subst (λ k. Gave n old old (lets_go k (node_state n) b)) (sym e) (record { state = refl; streams = streams; outs = spoke_none old })

-- a message has come, and all that was taken is acknowledged
pub message_came : (n m : NodeState) (after : Node) (from seq : ℕ) (x y : Arrived Message) (old mid new : Spoken) → m ≡ n → x ≡ y → Gave after old mid (comes_in m from seq x)
    → Spoke mid new (acknowledges (node_state after) from) → Gave after old new (comes n from seq y)
message_came n m after from seq x y old mid new e f g outs =
    gave_acknowledged after old mid new (comes_in n from seq y) from (subst (λ z. Gave after old mid (comes_in n from seq z)) f (subst (λ z. Gave after old mid (comes_in z from seq x)) e g)) outs

-- what an arrival is
pub came_in : (n mid : NodeState) (after : Node) (a k : ℕ) (x : Arrived Message) (m : Message) (old between new : Spoken) → x ≡ Taken m → mid ≡ with_message n m → Spoke old between (Says (line.Taken a (here n) k) ∷ [])
    → Gave after between new (takes_kept window mid a) → Gave after old new (comes_in n a k x)
came_in n mid after a k x m old between new is state said g =
    subst (λ y. Gave after old new (comes_in n a k y)) (sym is)
    (gave_before after old between new (Says (line.Taken a (here n) k) ∷ []) (takes_kept window (with_message n m) a) said (subst (λ (s : NodeState). Gave after between new (takes_kept window s a)) state g))

pub came_old : (n : Node) (a k : ℕ) (x : Arrived Message) (old new : Spoken) → x ≡ Old → HasStreams n → Spoke old new (Says (line.Old a (here (node_state n)) k) ∷ []) → Gave n old new (comes_in (node_state n) a k x)
came_old n a k x old new is streams said = subst (λ y. Gave n old new (comes_in (node_state n) a k y)) (sym is) (record { state = refl; streams = streams; outs = said })

pub came_early : (n : Node) (a k : ℕ) (x : Arrived Message) (old new : Spoken) → x ≡ Early → HasStreams n → Spoke old new (Says (line.Early a (here (node_state n)) k) ∷ []) → Gave n old new (comes_in (node_state n) a k x)
came_early n a k x old new is streams said = subst (λ y. Gave n old new (comes_in (node_state n) a k y)) (sym is) (record { state = refl; streams = streams; outs = said })
