-- A group keeps each process in a phase, where what a machine's ring lists is here, and nothing is known of what is made next.
use Rattle.dm_law_rule.proofs.Names.{◌≡◌, ℕ, ◌+◌, List, [], ◌∷◌, refl, ap, ◌∙◌, subst, slice_get, Option, None, Some, Pid, pid_of, MsgId, PlainMessage, Boot, first_number, Step, Line, Unknown, Here, after_head, Point, moved, Part, Says}
use Rattle.dm_law_rule.proofs.Names.{Spelled, spelled, migrates, group_of, calls_off}
use Rattle.dm_law_rule.specs.Rule as rule
use Rattle.dm_law_rule.proofs.States.{State, PairsFit}
use Rattle.dm_law_rule.proofs.Groups.{group_is, begun, turn_off, call_off, arrives_net, resends_net}
use Rattle.dm_law_rule.proofs.Moves.States.{front_way}
use Rattle.dm_law_rule.proofs.Telling.{Sane, sane_line}
use Rattle.dm_law_rule.proofs.Phases.Calm.{calm_trans}
use Rattle.dm_law_rule.proofs.Phases.Stand.{InPhases, calm_phases}
use Rattle.dm_law_rule.proofs.Phases.Answers.{Whole}
use Rattle.dm_law_rule.proofs.Phases.Hears.{phases_hears}
use Rattle.dm_law_rule.proofs.Phases.Net.{head_calm, net_parts, migrates_quiet}
use Rattle.dm_law_rule.proofs.Phases.Leaves.{told_some}
use Rattle.dm_law_rule.proofs.Phases.Called.{called_row}
use Rattle.dm_law_rule.proofs.Phases.Ranked.{Ranked, ranked_head}
use Rattle.dm_law_rule.proofs.Phases.Ends.{Ends}
use Rattle.dm_law_rule.proofs.Requests.{by_calls_off}
use Rattle.dm_law_rule.proofs.Phases.Turns.{Fit, quiet_parts, phases_handles, phases_round}

-- what a ring's first process that can be served is, and what is known of the process that a machine would make next
pub record Rooted (pt : Point) : Type 0 where
  pub served : (m : ℕ) (p : Pid) → rule.first_runnable pt.kernel (pt.view.queue m) (pt.view.ring m) ≡ Some p → pt.view.known m p ≡ Here
  pub unborn : (m n : ℕ) → pt.view.known n (pid_of m (first_number + pt.kernel.made m)) ≡ Unknown

-- behind the head of a turn
abbrev pub turned : Point → ℕ → Point
turned pt m = moved pt (Line.Head (Step.Turn m)) pt.kernel

turn_fit : (pt : Point) (m : ℕ) → InPhases pt.view → Sane pt → PairsFit pt.view → Fit (turned pt m)
turn_fit pt m h sane fits = record {
  phases = calm_phases pt.view (after_head pt.view (Step.Turn m)) (head_calm pt.view (Step.Turn m)) h;
  sane = sane_line pt (turned pt m) (Line.Head (Step.Turn m)) refl refl sane;
  fits = record { within = fits.within; home = fits.home };
}

comes_row : (b : Boot) (pt : Point) (m : ℕ) (i : MsgId) (is : List MsgId) (o : Option PlainMessage) (parts : List Part) (w : Spelled) → InPhases pt.view → State None pt → Sane pt → PairsFit pt.view → Rooted pt → Ranked pt.view → Ends pt → pt.view.inbox m ≡ i ∷ is → pt.kernel.bag i ≡ o
    → rule.comes_to b pt m i o ≡ Some parts → spelled (turned pt m) parts ≡ Some w → InPhases w.point.view
comes_row b pt m i is None parts w h state sane fits rooted ranked ends front there e n =
    let f = turn_fit pt m h sane fits in
    let whole : Whole (turned pt m) = record { state = begun pt (Step.Turn m) state (λ z. turn_off pt.view m z) (λ i. refl); fits = f.fits; phases = f.phases } in
    (phases_hears b pt (turned pt m) m i is (pt.view.told i) parts w whole f.sane (ranked_head pt.view (Step.Turn m) ranked) (record { away = ends.away; there = ends.there; servers = ends.servers; buries = ends.buries }) front there refl
    (record { same = record { kernel = refl; queue = λ q. refl; held = λ q. refl }; acting = refl; known = λ q. refl; topic = refl }) e n).phases
comes_row b pt m i is (Some msg) parts w h state sane fits rooted ranked ends front there e n =
    let begun_ = begun pt (Step.Turn m) state (λ z. turn_off pt.view m z) (λ i. refl) in
    let (q, way) = front_way (turned pt m) i is begun_ front in
    let (t, told) = told_some (pt.view.told i) q (begun_.stands.told i q way) in
    phases_handles b pt (turned pt m) m i msg parts w (turn_fit pt m h sane fits) (record { there = there; told = t; is = told; state = begun_; others = is; front = front }) (λ k. rooted.unborn m k) refl refl e n

turn_row : (b : Boot) (pt : Point) (m : ℕ) (inbox : List MsgId) (parts : List Part) (w : Spelled) → InPhases pt.view → State None pt → Sane pt → PairsFit pt.view → Rooted pt → Ranked pt.view → Ends pt → pt.view.inbox m ≡ inbox
    → rule.turns b pt m inbox ≡ Some parts → spelled (turned pt m) parts ≡ Some w → InPhases w.point.view
turn_row b pt m [] parts w h state sane fits rooted ranked ends front e n =
    phases_round b pt (turned pt m) m (rule.first_runnable pt.kernel (pt.view.queue m) (pt.view.ring m)) parts w (turn_fit pt m h sane fits) (λ q is. rooted.served m q is) e n
turn_row b pt m (i ∷ is) parts w h state sane fits rooted ranked ends front e n = comes_row b pt m i is (pt.kernel.bag i) parts w h state sane fits rooted ranked ends front refl e n

pub phases_group : (b : Boot) (pt : Point) (d : Step) (w : Spelled) → group_of b pt d ≡ Some w → InPhases pt.view → State None pt → Sane pt → PairsFit pt.view → Rooted pt → Ranked pt.view → Ends pt → InPhases w.point.view
phases_group b pt (Step.Turn m) w e h state sane fits rooted ranked ends =
    let g = group_is b pt (Step.Turn m) w e in
    subst (λ (q : Point). InPhases q.view) g.point (turn_row b pt m (pt.view.inbox m) g.parts g.rest h state sane fits rooted ranked ends refl g.is g.said)
phases_group b pt (Step.Tick m) w e h state sane fits rooted ranked ends =
    let g = group_is b pt (Step.Tick m) w e in
    let qs = Says (Line.Resent m (rule.outstanding_count pt.view m pt.kernel.machines)) ∷ rule.resends pt.view m pt.kernel.machines in
    let f : qs ≡ g.parts = let k = g.is in cc in
    let start = moved pt (Line.Head (Step.Tick m)) pt.kernel in
    subst (λ (q : Point). InPhases q.view) g.point
    (calm_phases pt.view g.rest.point.view (calm_trans pt.view start.view g.rest.point.view (head_calm pt.view (Step.Tick m)) (net_parts qs start g.rest (tt, resends_net pt.view m pt.kernel.machines) (ap (spelled start) f ∙ g.said))) h)
phases_group b pt (Step.Deliver a c k) w e h state sane fits rooted ranked ends =
    let g = group_is b pt (Step.Deliver a c k) w e in
    let qs = rule.arrives a c (pt.view.pair a c) (pt.view.pair c a) (slice_get (pt.view.pair a c).wire k) in
    let f : qs ≡ g.parts = let t = g.is in cc in
    let start = moved pt (Line.Head (Step.Deliver a c k)) pt.kernel in
    subst (λ (q : Point). InPhases q.view) g.point
    (calm_phases pt.view g.rest.point.view (calm_trans pt.view start.view g.rest.point.view (head_calm pt.view (Step.Deliver a c k)) (net_parts qs start g.rest (arrives_net a c (pt.view.pair a c) (pt.view.pair c a) (slice_get (pt.view.pair a c).wire k)) (ap (spelled start) f ∙ g.said))) h)
phases_group b pt (Step.Migrate p m) w e h state sane fits rooted ranked ends =
    let g = group_is b pt (Step.Migrate p m) w e in
    let start = moved pt (Line.Head (Step.Migrate p m)) pt.kernel in
    let fit : Fit start = record {
      phases = calm_phases pt.view (after_head pt.view (Step.Migrate p m)) (head_calm pt.view (Step.Migrate p m)) h;
      sane = sane_line pt start (Line.Head (Step.Migrate p m)) refl refl sane;
      fits = record { within = fits.within; home = fits.home };
    } in
    subst (λ (q : Point). InPhases q.view) g.point (quiet_parts (migrates pt p) start g.rest fit (migrates_quiet start.view pt p) (ap (spelled start) (let f : migrates pt p ≡ g.parts = let k = g.is in cc in f) ∙ g.said))
phases_group b pt (Step.CallOff p m) w e h state sane fits rooted ranked ends =
    let g = group_is b pt (Step.CallOff p m) w e in
    let start = moved pt (Line.Head (Step.CallOff p m)) pt.kernel in
    let phases = calm_phases pt.view (after_head pt.view (Step.CallOff p m)) (head_calm pt.view (Step.CallOff p m)) h in
    let whole : Whole start = record { state = begun pt (Step.CallOff p m) state (λ z. call_off pt.view p m z) (λ i. refl); fits = record { within = fits.within; home = fits.home }; phases = phases } in
    let fit : Fit start = record { phases = phases; sane = sane_line pt start (Line.Head (Step.CallOff p m)) refl refl sane; fits = whole.fits } in
    let f : calls_off pt m p (pt.view.known m p) ≡ g.parts = let k = g.is in cc in
    subst (λ (q : Point). InPhases q.view) g.point
    (by_calls_off (λ (ps : List Part). spelled start ps ≡ Some g.rest → InPhases g.rest.point.view) pt m p (λ n. quiet_parts (Says (Line.NoCall p) ∷ []) start g.rest fit (tt, tt) n)
    (λ from here come n. (called_row start p from g.rest whole (λ j t told b. sane.tells.own j t told b) here come n).phases) (ap (spelled start) f ∙ g.said))
