-- Who has ended behind a turn: the machine's kernel says it before messages are routed, and the world keeps it.
use Rattle.dm_law_mirror.proofs.Names.{◌≡◌, ℕ, Bool, true, false, List, [], ◌∷◌, refl, ap, ◌∙◌, sym, subst, ⊤, if◌then◌else◌, ◌==◌, Option, None, Some, Pid, pid_eq, Message, Boot, Why, Step, OneKernel, Point, Placed, KernelState, KernelStands}
use Rattle.dm_law_mirror.proofs.Names.{FreezesWhole, NodeState, here, Out, Acts, Goes, Worn, acts, sends_due, gives, routes, routes_away, routes_home, is_worn, none_waits, with_given, with_sender, due, Part, then_, before_turn, why_ended}
use Rattle.dm_law_mirror.proofs.Names.{with_over}
use Rattle.dm_node.proofs.Names.{behind}
use Rattle.dm_node.specs.declared.out.Out.TheVariants as out
use Rattle.dm_law_mirror.proofs.Turning.{EndsSo, NoneEnds, OneEnds}

-- routing leaves it
abbrev HasOver : Option (Pid × Why) → Acts → Type 0
HasOver o (Goes a) = a.state.kernel.over ≡ o
HasOver o (Worn from to) = ⊤

due_over : (n : NodeState) (b : ℕ) (d : Option (ℕ × Message)) → (sends_due n b d).state.kernel ≡ n.kernel
due_over n b None = refl
due_over n b (Some p) = refl

gives_over : (n : NodeState) (b : ℕ) (m : Message) (none : Bool) → HasOver n.kernel.over (gives n b m (n.senders b) none)
gives_over n b m true = ap (λ (k : KernelState). k.over) (due_over (with_sender n b (with_given (n.senders b) m)) b (due (with_given (n.senders b) m)))
gives_over n b m false = refl

away_over : (n : NodeState) (b : ℕ) (m : Message) → HasOver n.kernel.over (routes_away n b m (n.senders b))
away_over n b m =
    let s = n.senders b in
    elim (is_worn s) as (λ (c : Bool). HasOver n.kernel.over (if c then Worn (here n) b else gives n b m s (none_waits s))) [ true ↦ tt | false ↦ gives_over n b m (none_waits s) ]

home_over : (n : NodeState) (m : Message) (full : Bool) → HasOver n.kernel.over (routes_home n m full)
home_over n m true = tt
home_over n m false = refl

routes_over : (n : NodeState) (m : Message) → HasOver n.kernel.over (routes n m)
routes_over n m = elim (m.to.at == here n) as (λ (c : Bool). HasOver n.kernel.over (if c then routes_home n m (n.home == n.numbers) else routes_away n m.to.at m (n.senders m.to.at))) [
  | true ↦ home_over n m (n.home == n.numbers)
  | false ↦ away_over n m.to.at m
]

behind_over : (o : Option (Pid × Why)) (outs : List Out) (a : Acts) → HasOver o a → HasOver o (behind outs a)
behind_over o outs (Goes a) h = h
behind_over o outs (Worn from to) h = tt

then_over : (o : Option (Pid × Why)) (a : Acts) (go : NodeState → Acts) → HasOver o a → ((n : NodeState) → n.kernel.over ≡ o → HasOver o (go n)) → HasOver o (then_ a go)
then_over o (Goes a) go h k = behind_over o a.outs (go a.state) (k a.state h)
then_over o (Worn from to) go h k = tt

acts_have : (o : Option (Pid × Why)) (n : NodeState) (ps : List Part) → n.kernel.over ≡ o → HasOver o (acts n ps)
acts_have o n [] e = e
acts_have o n (Part.Says l ∷ ps) e = behind_over o (out.Says l ∷ []) (acts n ps) (acts_have o n ps e)
acts_have o n (Part.Routes m ∷ ps) e = then_over o (routes n m) (λ next. acts next ps) (subst (λ (x : Option (Pid × Why)). HasOver x (routes n m)) e (routes_over n m)) (λ next f. acts_have o next ps f)

pub acts_over : (n : NodeState) (ps : List Part) (c : Acts) → acts n ps ≡ c → HasOver n.kernel.over c
acts_over n ps c e = subst (HasOver n.kernel.over) e (acts_have n.kernel.over n ps refl)

-- what the world keeps is what the lines say
pub kept_over : (ended : Pid → Option Why) (d : Step) (s t : OneKernel) (now : Option (Pid × Why)) → ((p : Pid) → ended p ≡ why_ended (s.processes p)) → EndsSo d s t None now → (p : Pid) → with_over ended now p ≡ why_ended (t.processes p)
kept_over ended d s t now same (NoneEnds is spares) p = ap (λ (o : Option (Pid × Why)). with_over ended o p) is ∙ same p ∙ sym (spares p)
kept_over ended d s t now same (OneEnds m q y turn is ends) p =
    ap (λ (o : Option (Pid × Why)). with_over ended o p) is ∙ ap (λ (r : Option Why). if pid_eq q p then Some y else r) (same p) ∙ sym (ends p)

-- nobody ends but by a turn
pub still_over : (ended : Pid → Option Why) (d : Step) (s t : OneKernel) (before now : Option (Pid × Why)) → ((m : ℕ) → d ≡ Step.Turn m → ⊥) → ((p : Pid) → ended p ≡ why_ended (s.processes p)) → EndsSo d s t before now
    → (p : Pid) → ended p ≡ why_ended (t.processes p)
still_over ended d s t before now none same (NoneEnds is spares) p = same p ∙ sym (spares p)
still_over ended d s t before now none same (OneEnds m q y turn is ends) p = absurd (none m turn)

-- before a turn the kernel says nothing of it
pub before_stands : (b : Boot) (pt : Point) (l : Placed) (m : ℕ) (k : KernelState) → KernelStands b pt l m k → KernelStands b pt l m (before_turn k)
before_stands b pt l m k h = record { here = h.here; known = h.known; ring = h.ring; inbox = h.inbox; made = h.made; room = h.room; preds = h.preds }

pub before_whole : (k : KernelState) (ms : List Message) → FreezesWhole k ms → FreezesWhole (before_turn k) ms
before_whole k [] h = tt
before_whole k (m ∷ ms) h = h
