-- A turn that would be idle says so, and leads to the same world.
use Rattle.dm_law_mirror.proofs.Names.{◌≡◌, ℕ, ◌==◌, ◌||◌, Bool, true, false, if◌then◌else◌, nat_lt, is_some, List, [], ◌∷◌, length, refl, ap, ◌∙◌, sym, subst, arith, nat_tests, Option, None, Some, Pid, Message, Boot, Step, Line, NodeState, here, WorldState, Said, keeps_over, acted}
use Rattle.dm_kernel.specs.Turn.{first_runnable, goes_round}
use Rattle.dm_kernel.specs.Turn as kernel
use Rattle.dm_kernel.specs.State.{before_turn}
use Rattle.dm_node.specs.Acts as node
use Rattle.dm_node.specs.Out.{Acted, Acts, Goes}
use Rattle.dm_node.specs.declared.out.Out.TheVariants as out
use Rattle.dm_world.specs.World.{Says, turned}
use Rattle.dm_law_runs.specs.Choices.Chosen.{NodeAs, WorldAs}
use Rattle.dm_law_runs.specs.Choices.Laws.{IdleIsSame, IdleTurnsSayNothing}
use Rattle.dm_law_runs.proofs.Choices.Idle.Carried.{ended_node, node_as}
use Rattle.dm_law_runs.proofs.Choices.Idle.Same.{goes_same}

no_mail : (ms : List Message) → nat_lt 0 (length ms) ≡ false → ms ≡ []
no_mail [] e = refl
no_mail (m ∷ ms) e = absurd (grind (arith, nat_tests))

none_some : (o : Option Pid) → is_some o ≡ false → o ≡ None
none_some None e = refl
none_some (Some p) e = cc

or_first : (c d : Bool) → (c || d) ≡ false → c ≡ false
or_first true d e = e
or_first false d e = refl

or_last : (c d : Bool) → (c || d) ≡ false → d ≡ false
or_last true d e = absurd (let f : true ≡ false = e in cc)
or_last false d e = e

-- what an idle turn gives
abbrev idle : NodeState → Acted
idle n = record { state = ended_node None n; outs = out.Says (Line.Idle (here n)) ∷ [] }

turn_is : (b : Boot) (n : NodeState) → n.kernel.inbox ≡ [] → first_runnable n.kernel.records n.kernel.ring ≡ None → node.turn b n ≡ Some (Goes (idle n))
turn_is b n empty none = ap (λ (ms : List Message). node.turns n (kernel.turns b (before_turn n.kernel) ms)) empty ∙ ap (λ (p : Option Pid). node.turns n (goes_round b (before_turn n.kernel) p)) none

set_idle : (w : WorldState) (m k : ℕ) (c : Bool) → (m == k) ≡ c → NodeAs (w.nodes k) (if c then ended_node None (w.nodes m) else w.nodes k)
set_idle w m k true same = subst (λ (j : ℕ). NodeAs (w.nodes j) (ended_node None (w.nodes m))) (let f : m ≡ k = grind (arith, nat_tests) in f) (node_as None (w.nodes m))
set_idle w m k false apart = node_as (w.nodes k).kernel.over (w.nodes k)

pub idle_is_same : IdleIsSame
idle_is_same b w m s is idle_ happens =
    let mail : (w.nodes m).kernel.inbox ≡ [] = no_mail (w.nodes m).kernel.inbox (or_first (nat_lt 0 (length (w.nodes m).kernel.inbox)) (is_some (first_runnable (w.nodes m).kernel.records (w.nodes m).kernel.ring)) idle_) in
    let none = none_some (first_runnable (w.nodes m).kernel.records (w.nodes m).kernel.ring) (or_last (nat_lt 0 (length (w.nodes m).kernel.inbox)) (is_some (first_runnable (w.nodes m).kernel.records (w.nodes m).kernel.ring)) idle_) in
    let gives : node.turn b (w.nodes m) ≡ Some (Goes (idle (w.nodes m))) = turn_is b (w.nodes m) mail none in
    let x : Said = acted w (Step.Turn m) m (idle (w.nodes m)) in
    let there : Some (Says x) ≡ Some (Says s) = sym (ap (λ (o : Option Acts). turned (keeps_over w o) (Step.Turn m) m o) gives) ∙ happens in
    let same : x ≡ s = cc in (
      ap (λ (z : Said). z.lines) (sym same) ∙ ap (λ (h : ℕ). Line.Head (Step.Turn m) ∷ Line.Idle h ∷ []) is,
      subst (λ (z : Said). WorldAs w z.state) same (record { nodes = λ k. set_idle w m k (m == k) refl; is = refl }),
    )

pub idle_turns_say_nothing : IdleTurnsSayNothing
idle_turns_say_nothing = (idle_is_same, goes_same)
