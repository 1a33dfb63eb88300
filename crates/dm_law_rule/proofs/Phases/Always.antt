-- Wherever the rule leads, each process is in a phase.
use Rattle.dm_law_rule.proofs.Names.{◌≡◌, ℕ, ◌<◌, ◌≤◌, ◌==◌, ◌&&◌, ◌||◌, Bool, true, false, List, [], ◌∷◌, ◌++◌, length, refl, ap, ◌∙◌, sym, subst, inl, inr, arith, if◌then◌else◌, map, option_map, None, Some, cases_Bool, slice_get_cases}
use Rattle.dm_law_rule.proofs.Names.{nat_tests, Pid, pid_eq, plain_link, BootProcess, Boot, IsValid, processes_are_valid, switchboard, manager, Alive, begun, first_life, life_at, Step, View, first_view, Known, Unknown, Here, known_at, ring_at}
use Rattle.dm_law_rule.proofs.Names.{Point, first_point, is_due, IsStep, Leads, PhasesAlways, MsgId, MessageKind, Told, Of, is_away, is_server, tells_end, sort_of, Phase, IsIn, PlainProcess, Spelled, group_of, false_from_ne_true, KernelsInOrderAlways}
use Rattle.dm_law_rule.proofs.Pairs.{Pairs, Pairs-start, Pairs-group}
use Rattle.dm_law_rule.proofs.States.{State}
use Rattle.dm_law_rule.proofs.Groups.{fits, State-start, State-group}
use Rattle.dm_law_rule.proofs.Telling.{Sane, sane_start, sane_group}
use Rattle.dm_law_rule.proofs.Hearing.{bury_is}
use Rattle.dm_law_rule.proofs.Phases.Stand.{InPhases}
use Rattle.dm_law_rule.proofs.Phases.Start.{phases_start}
use Rattle.dm_law_rule.proofs.Phases.Groups.{phases_group}
use Rattle.dm_law_rule.proofs.Phases.Ranked.{Ranked}
use Rattle.dm_law_rule.proofs.Phases.Ends.{IsEnded, HaveEnds, have_ends, ends_in, living_on, server_on, is_gone}
use Rattle.dm_law_rule.proofs.Phases.Ending.{ends_start, ends_group}
use Rattle.dm_law_rule.proofs.Phases.Order.{ranked_start, ranked_group, ranked_order}
use Rattle.dm_law_rule.proofs.Rings.{AllHere}
use Rattle.dm_law_rule.proofs.Rooted.Groups.{Grounded, rooted, roots_group}

-- the rings of the boot file
more_here : (f g : Pid → Known) (ps : List Pid) → ((q : Pid) → f q ≡ Here → g q ≡ Here) → AllHere f ps → AllHere g ps
more_here f g [] more h = tt
more_here f g (p ∷ ps) more h = (more p h.0, more_here f g ps more h.1)

rings_first : (ps : List BootProcess) (m : ℕ) → AllHere (known_at ps m) (ring_at ps m)
rings_first [] m = tt
rings_first (p ∷ ps) m =
    let first_here : (p : Pid) (m : ℕ) (k : Known) → (p.home == m) ≡ true → (if pid_eq p p && (p.home == m) then Here else k) ≡ Here =
    λ p m k e. ap (λ (c : Bool). if c then Here else k) (let f : (pid_eq p p && (p.home == m)) ≡ true = grind (arith, nat_tests) in f) in
    let ring_row : (f : Pid → Known) (p : Pid) (ps : List Pid) (c : Bool) → (c ≡ true → f p ≡ Here) → AllHere f ps → AllHere f (if c then p ∷ ps else ps) =
    λ f p ps c here h. (elim c as (λ c_. ((c_ ≡ true → f p ≡ Here)) → AllHere f (if c_ then p ∷ ps else ps)) [ true ↦ λ here'. (here' refl, h) | false ↦ λ here'. h ]) here in
    ring_row (known_at (p ∷ ps) m) p.pid (ring_at ps m) (p.pid.home == m) (first_here p.pid m (known_at ps m p.pid))
    (more_here (known_at ps m) (known_at (p ∷ ps) m) (ring_at ps m) (λ q e. elim (pid_eq p.pid q && (p.pid.home == m)) as (λ c. (if c then Here else (known_at ps m q)) ≡ Here)
    [ true ↦ refl | false ↦ e ]) (rings_first ps m))

-- each process of it is made
image_there : (b : Boot) (p : BootProcess) → p.image < length b.images → first_life b p ≡ None → ⊥
image_there b p le none = elim (slice_get_cases b.images p.image).1 [
  | inl w ↦
      let (i, within, is, got) = w in
      let f : None ≡ Some (Alive (begun b.format i (map plain_link p.links))) = sym none ∙ ap (option_map (λ image. Alive (begun b.format image (map plain_link p.links)))) is in
      cc
  | inr w ↦ let past = w.0 in omega (arith, le, past)
]

known_first : (b : Boot) (earlier ps : List BootProcess) (m : ℕ) (q : Pid) → processes_are_valid b earlier ps ≡ true → life_at b ps q ≡ None → 3 ≤ q.num → known_at ps m q ≡ Unknown
known_first b earlier [] m q valid none le = ap (λ (c : Bool). if c then Here else Unknown) (let f : ((m == 0) && (pid_eq q switchboard || pid_eq q manager)) ≡ false = grind (arith, nat_tests) in f)
known_first b earlier (p ∷ ps) m q valid none le = elim (cases_Bool (pid_eq p.pid q)) [
  | inl same ↦
      absurd (image_there b p (let image : p.image < length b.images = grind (arith, nat_tests) in image) (sym (ap (λ (c : Bool). if c then first_life b p else life_at b ps q) same) ∙ none))
  | inr off ↦
      let rest : processes_are_valid b (earlier ++ p ∷ []) ps ≡ true = grind (arith, nat_tests) in
      ap (λ (c : Bool). if c && (p.pid.home == m) then Here else known_at ps m q) off
      ∙ known_first b (earlier ++ p ∷ []) ps m q rest (sym (ap (λ (c : Bool). if c then first_life b p else life_at b ps q) off) ∙ none) le
]

-- in order, as a word that searches through what holds don't open
unfoldable pub IsRanked : View → Type 0
IsRanked v = Ranked v

-- all that holds together
pub record Phased (pt : Point) : Type 0 where
  pub pairs : Pairs pt.view
  pub state : State None pt
  pub sane : Sane pt
  pub ground : Grounded pt
  pub phases : InPhases pt.view
  pub ranked : IsRanked pt.view
  pub ends : HaveEnds pt

is_ranked : (v : View) → Ranked v → IsRanked v
unfolding IsRanked
is_ranked v h = h

pub ranked_in : (v : View) → IsRanked v → Ranked v
unfolding IsRanked
ranked_in v h = h

pub phased_start : (b : Boot) → IsValid b → Phased (first_point b)
phased_start b valid = record {
  pairs = Pairs-start b;
  state = State-start b valid;
  sane = sane_start b valid;
  ground = (search (arith, rings_first, known_first));
  phases = phases_start b;
  ranked = is_ranked (first_view b) (ranked_start b);
  ends = have_ends (first_point b) (ends_start b valid);
}

pub phased_group : (b : Boot) (pt : Point) (d : Step) (w : Spelled) → IsStep pt.kernel.machines d → group_of b pt d ≡ Some w → Phased pt → Phased w.point
phased_group b pt d w fit is h =
    let f = fits pt.view h.pairs in
    let ranked = ranked_in pt.view h.ranked in
    let ends = ends_in pt h.ends in
    record {
      pairs = Pairs-group b pt d w fit is h.pairs;
      state = State-group b pt d w is f h.state;
      sane = sane_group b pt d w is h.sane;
      ground = roots_group b pt d w is h.phases h.sane (λ i t p told kind about m. ends.away m p (ends.buries i t p told kind about)) h.ground;
      phases = phases_group b pt d w is h.phases h.state h.sane f (rooted pt h.sane h.ground) ranked ends;
      ranked = is_ranked w.point.view (ranked_group b pt d w is h.phases h.state h.sane f ranked);
      ends = have_ends w.point (ends_group b pt d w is h.phases h.state h.sane (rooted pt h.sane h.ground) ends);
    }

pub phased_on : (b : Boot) (es : List Step) (pt end : Point) → Leads b pt es end → Phased pt → Phased end
phased_on b [] pt end leads h = subst Phased leads h
phased_on b (d ∷ es) pt end (w, fit, is, rest) h = phased_on b es w.point end rest (phased_group b pt d w fit is h)

-- what a kernel is told to forget has ended, and is on no machine
pub bury_over : (pt : Point) (i : MsgId) (t : Told) (p : Pid) → Phased pt → pt.view.told i ≡ Some t → t.kind ≡ MessageKind.Bury → t.about ≡ Of p → IsEnded pt.kernel p
bury_over pt i t p h told k about = (ends_in pt h.ends).buries i t p told k about

pub ended_away : (pt : Point) (p : Pid) → Phased pt → IsEnded pt.kernel p → (m : ℕ) → is_away (pt.view.known m p) ≡ true
ended_away pt p h over m = (ends_in pt h.ends).away m p over

pub bury_away : (pt : Point) (i : MsgId) (t : Told) (p : Pid) → Phased pt → pt.view.told i ≡ Some t → tells_end (sort_of t.kind) ≡ true → t.about ≡ Of p → (m : ℕ) → is_away (pt.view.known m p) ≡ true
bury_away pt i t p h told k about m = ended_away pt p h (bury_over pt i t p h told (bury_is t.kind k) about) m

-- of what lives the phase is `Rests` or `Moves`
pub living_phase : (pt : Point) (p : Pid) (x : PlainProcess) (phase : Phase) → Phased pt → pt.kernel.processes p ≡ Some (Alive x) → IsIn pt.view p phase → is_gone phase ≡ false
living_phase pt p x phase h alive is = living_on pt p x phase (ends_in pt h.ends) alive is

-- and of a server, which is here somewhere, leaves or comes
pub server_phase : (pt : Point) (p : Pid) (phase : Phase) → Phased pt → is_server p ≡ true → IsIn pt.view p phase → is_gone phase ≡ false
server_phase pt p phase h server is = server_on pt p phase (ends_in pt h.ends) server is

-- wherever the rule leads
pub phases_always : PhasesAlways
phases_always b es pt p valid leads =
    let h = phased_on b es (first_point b) pt leads (phased_start b valid) in
    (h.phases.of p, h.phases.each p, false_from_ne_true (is_due (h.phases.of p)) (λ e. let f : None ≡ Some p = h.phases.put p e in cc))

-- and what kernels tell each other stays in order
pub kernels_in_order_always : KernelsInOrderAlways
kernels_in_order_always b es pt valid leads = ranked_order pt.view (ranked_in pt.view (phased_on b es (first_point b) pt leads (phased_start b valid)).ranked)
