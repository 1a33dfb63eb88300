-- A machine of which one stream has changed, and what comes of a message that is routed.
use Rattle.dm_node.proofs.Names.{◌≡◌, ℕ, suc, ◌+◌, Bool, true, false, ◌==◌, arith, List, [], ◌∷◌, ◌++◌, length, refl, sym, ap, ◌∙◌, subst, inl, inr, eq-eqb, if◌then◌else◌, with_items, eqb_tells, with_items_is}
use Rattle.dm_node.proofs.Names.{Option, None, Some, Message, Packet, Sending, due, outstanding, with_given, with_sent, Receiving, at_machine, Node, Out, Says, Sends, NodeState, here, with_sender, with_receiver}
use Rattle.dm_node.proofs.Names.{Line, again, all_out, count_out, first_out}
use Rattle.dm_node.proofs.Names.{Acted, Worn, gives, is_worn, none_waits, put_line, routes_away, sends_due, Gave, GaveActs, HasStreams, Spoke, Spoken, receiver_at, sender_at, node_state}
use Rattle.dm_node.specs.Out.{numbered}
use Rattle.dm_packet.specs.declared.Packet.TheVariants as packet
use Rattle.dm_node.proofs.Speaking.{spoke_more, spoke_none}

-- what changes one sender gives the machine with that sender
pub sender_set : (n : NodeState) (senders : ℕ → Sending Message) (b : ℕ) (s : Sending Message) → ((c : ℕ) → senders c ≡ at_machine n.senders b s c)
    → record n { senders = senders } ≡ with_sender n b s
sender_set n senders b s e = λ i. record n { senders = λ c. e c i }

pub receiver_set : (n : NodeState) (receivers : ℕ → Receiving Message) (a : ℕ) (r : Receiving Message) → ((c : ℕ) → receivers c ≡ at_machine n.receivers a r c)
    → record n { receivers = receivers } ≡ with_receiver n a r
receiver_set n receivers a r e = λ i. record n { receivers = λ c. e c i }

-- what is written into the streams stands there
pub senders_written : (n : Node) (xs : List (Sending Message)) → length xs ≡ length n.senders.items → node_state (record n { senders = with_items n.senders xs }) ≡ record (node_state n) { senders = sender_at xs }
senders_written n xs e = ap (λ ys. record (node_state n) { senders = sender_at ys }) (with_items_is n.senders xs (e ∙ sym n.senders.ok.0))

pub receivers_written : (n : Node) (xs : List (Receiving Message)) → length xs ≡ length n.receivers.items → node_state (record n { receivers = with_items n.receivers xs }) ≡ record (node_state n) { receivers = receiver_at xs }
receivers_written n xs e = ap (λ ys. record (node_state n) { receivers = receiver_at ys }) (with_items_is n.receivers xs (e ∙ sym n.receivers.ok.0))

pub senders_there : (n : Node) (xs : List (Sending Message)) → HasStreams n → length xs ≡ length n.senders.items → HasStreams (record n { senders = with_items n.senders xs })
senders_there n xs h e = record { senders = ap length (with_items_is n.senders xs (e ∙ sym n.senders.ok.0)) ∙ e ∙ h.senders; receivers = h.receivers; idle = h.idle }

pub at_same : {X : Type 0} (f : ℕ → X) (b : ℕ) (x : X) → at_machine f b x b ≡ x
at_same f b x = ap (λ (c : Bool). if c then x else f b) (eq-eqb b b refl)

pub apart : (k l : ℕ) → (k ≡ l → ⊥) → (k == l) ≡ false
apart k l h = elim (eqb_tells k l) [ inl e ↦ absurd (h e.1) | inr e ↦ e.0 ]

-- they aren't
pub given : (n : NodeState) (b : ℕ) (m : Message) (s : Sending Message) (none : Bool) → is_worn s ≡ false → none_waits s ≡ none → routes_away n b m s ≡ gives n b m s none
given n b m s none free e = ap (λ (c : Bool). if c then Worn (here n) b else gives n b m s (none_waits s)) free ∙ ap (gives n b m s) e

-- with these before the rest
pub behind_gave : (after : Node) (old mid new : Spoken) (o : Out) (a : Acted) → Spoke old mid (o ∷ []) → Gave after mid new a
    → Gave after old new (record { state = a.state; outs = (o ∷ []) ++ a.outs })
behind_gave after old mid new o a e g = record { state = g.state; streams = g.streams; outs = spoke_more old mid new (o ∷ []) a.outs e g.outs }

-- a message is given, and goes out
pub given_goes : (n mid : NodeState) (after : Node) (b : ℕ) (m : Message) (old between new : Spoken) → mid ≡ with_sender n b (with_given (n.senders b) m)
    → Spoke old between (Says (put_line n m) ∷ []) → Gave after between new (sends_due mid b (due (mid.senders b))) → GaveActs after old new (gives n b m (n.senders b) true)
given_goes n mid after b m old between new state outs gave =
    let s = with_given (n.senders b) m in
    let set = with_sender n b s in
    let e : sends_due mid b (due (mid.senders b)) ≡ sends_due set b (due s) =
    ap (λ (x : NodeState). sends_due x b (due (x.senders b))) state ∙ ap (λ (x : Sending Message). sends_due set b (due x)) (at_same n.senders b s) in
    behind_gave after old between new (Says (put_line n m)) (sends_due set b (due s)) outs (subst (Gave after between new) e gave)

-- what is due has gone out
pub due_sent : (n : NodeState) (after : Node) (b : ℕ) (p : Packet) (o : Option (ℕ × Message)) (old new : Spoken) → Some p ≡ numbered (here n) b o → node_state after ≡ with_sender n b (with_sent (n.senders b)) → HasStreams after
    → Spoke old new (Sends p ∷ []) → Gave after old new (sends_due n b o)
due_sent n after b p None old new is state streams sent = absurd (cc)
due_sent n after b p (Some x) old new is state streams sent =
    let same : p ≡ packet.Data (here n) b x.0 x.1 = cc in
    record { state = state; streams = streams; outs = subst (λ q. Spoke old new (Sends q ∷ [])) same sent }

-- and where nothing is due, nothing is sent
pub none_due : (n : Node) (b : ℕ) (o : Option (ℕ × Message)) (s : Spoken) → None ≡ numbered (here (node_state n)) b o → HasStreams n → Gave n s s (sends_due (node_state n) b o)
none_due n b None s is streams = record { state = refl; streams = streams; outs = spoke_none s }
none_due n b (Some x) s is streams = absurd (cc)

-- a packet that is out goes out again, or there is none
pub again_sent : (n : NodeState) (b : ℕ) (p : Packet) (o : Option (ℕ × Message)) (old new : Spoken) → Some p ≡ numbered (here n) b o → Spoke old new (Sends p ∷ []) → Spoke old new (again n b o)
again_sent n b p None old new is sent = absurd (cc)
again_sent n b p (Some x) old new is sent =
    let same : p ≡ packet.Data (here n) b x.0 x.1 = cc in
    subst (λ q. Spoke old new (Sends q ∷ [])) same sent

pub again_none : (n : NodeState) (b : ℕ) (o : Option (ℕ × Message)) (s : Spoken) → None ≡ numbered (here n) b o → Spoke s s (again n b o)
again_none n b None s is = spoke_none s
again_none n b (Some x) s is = absurd (cc)

-- one more of those that are out to a machine
pub again_more : (n : NodeState) (b k : ℕ) (old mid new : Spoken) → Spoke old mid (first_out n b k) → Spoke mid new (again n b (outstanding (n.senders b) k)) → Spoke old new (first_out n b (k + 1))
again_more n b k old mid new h sent =
    let next : suc k ≡ k + 1 = omega arith in
    subst (λ (j : ℕ). Spoke old new (first_out n b j)) next (spoke_more old mid new (first_out n b k) (again n b (outstanding (n.senders b) k)) h sent)

-- all that is out to one more machine, if that is another
pub all_more : (n : NodeState) (b : ℕ) (l : Line) (old mid new : Spoken) → (here n == b) ≡ false → Spoke old mid (Says l ∷ all_out n b) → Spoke mid new (first_out n b (count_out (n.senders b)))
    → Spoke old new (Says l ∷ all_out n (b + 1))
all_more n b l old mid new away h sent =
    let next : suc b ≡ b + 1 = omega arith in
    let out = first_out n b (count_out (n.senders b)) in
    subst (λ (j : ℕ). Spoke old new (Says l ∷ all_out n j)) next
    (spoke_more old mid new (Says l ∷ all_out n b) (if here n == b then [] else out) h (subst (λ (t : Bool). Spoke mid new (if t then [] else out)) (sym away) sent))

pub all_same : (n : NodeState) (b : ℕ) (l : Line) (old s : Spoken) → (here n == b) ≡ true → Spoke old s (Says l ∷ all_out n b) → Spoke old s (Says l ∷ all_out n (b + 1))
all_same n b l old s own h =
    let next : suc b ≡ b + 1 = omega arith in
    let out = first_out n b (count_out (n.senders b)) in
    subst (λ (j : ℕ). Spoke old s (Says l ∷ all_out n j)) next
    (spoke_more old s s (Says l ∷ all_out n b) (if here n == b then [] else out) h (subst (λ (t : Bool). Spoke s s (if t then [] else out)) (sym own) (spoke_none s)))
