-- A run of the world begins, and goes on directive by directive.
use Rattle.dm_law_mirror.proofs.Names.{◌≡◌, ℕ, List, [], ◌∷◌, ◌++◌, length, refl, ap, ◌∙◌, sym, subst, append_assoc, arith, Some, append-nil, All-nil, Boot, IsValid, start, replay, received_once, Step, Directive, Line, Todo, Next, all_of}
use Rattle.dm_law_mirror.proofs.Names.{next_step, IsKept, IsRun, IsStep, Leads, Spelled, Point, first_point, labels, group_of, stands_once_always, group_replay, labels-append, replay-append, WorldState, IsTwo, joined, GoesOn, RunStands}
use Rattle.dm_law_mirror.proofs.Names.{StepsStand, RunBegins, RunGoesOn, AreReadBack, gave, MayStep, zero, suc, Bool, if◌then◌else◌, option_map, Option, None, Pass, Two, begin_pass, below, in_pass, next_delivery, next_directive, next_pass}
use Rattle.dm_law_mirror.proofs.Names.{next_turn, or, pairs_of, pass_begun, settles, nat_tests, Seen, at_rest, none_some}
use Rattle.dm_world.specs.Next as world
use Rattle.dm_law_mirror.proofs.May.{acts_start, acts_step}
use Rattle.dm_law_mirror.proofs.Next.{NextFits, machines_stay, next_fits, next_is_said}
use Rattle.dm_law_mirror.proofs.Readable.{readable_step}
use Rattle.dm_law_mirror.proofs.Starting.{start_stands}
use Rattle.dm_law_mirror.proofs.Staying.{kernel_stays}
use Rattle.dm_law_mirror.proofs.Deliver.Outs.{first_readable}

pub run_begins : RunBegins
run_begins b ds valid fit = record {
  able = acts_start b valid;
  readable = first_readable b;
  good = record { run = (refl, refl); replays = refl; received = λ i. omega arith };
  steps = [];
  leads = refl;
  todo = record { pairs = All-nil (IsTwo (length b.machines)); machines_ = All-nil _; directives = fit };
  stands = start_stands b valid;
}

-- one more directive, and one more group
pub leads_last : (b : Boot) (es : List Step) (pt mid : Point) (e : Step) (v : Spelled) → Leads b pt es mid → IsStep mid.kernel.machines e → group_of b mid e ≡ Some v → Leads b pt (es ++ e ∷ []) v.point
leads_last b [] pt mid e v leads fit is = (v, subst (λ (q : Point). IsStep q.kernel.machines e) (sym leads) fit, ap (λ (q : Point). group_of b q e) leads ∙ is, refl)
leads_last b (d ∷ ds) pt mid e v (w, first, group, rest) fit is = (w, first, group, leads_last b ds w.point mid e v rest fit is)

pub run_last : (b : Boot) (gs : List (List Line)) (pt end : Point) (t left : Todo) (n : Next) (v : Spelled) (g : List Line) → IsRun b pt t gs end left → next_step end.kernel.machines end left ≡ Some n → group_of b end n.step ≡ Some v → v.lines ≡ g → IsKept b v.point
    → IsRun b pt t (gs ++ g ∷ []) v.point n.left
run_last b [] pt end t left n v g (e, f) next is lines kept = grind (arith, nat_tests, end.kernel.machines, end.view, n.step)
run_last b (h ∷ hs) pt end t left n v g (m, w, first, group, said, stands, rest) next is lines kept = (m, w, first, group, said, stands, run_last b hs w.point end m.left left n v g rest next is lines kept)

pub joined_last : (gs : List (List Line)) (g : List Line) → joined (gs ++ g ∷ []) ≡ joined gs ++ g
joined_last [] g = append-nil g
joined_last (h ∷ hs) g = ap (λ (ls : List Line). h ++ ls) (joined_last hs g) ∙ sym (append_assoc h (joined hs) g)

-- the labels replay, with one more group
pub replays_last : (b : Boot) (gs : List (List Line)) (pt : Point) (e : Step) (v : Spelled) (g : List Line) → replay (start b) (labels (joined gs)) ≡ Some pt.kernel → group_of b pt e ≡ Some v → v.lines ≡ g
    → replay (start b) (labels (joined (gs ++ g ∷ []))) ≡ Some v.point.kernel
replays_last b gs pt e v g before is lines =
    ap (replay (start b)) (ap labels (joined_last gs g) ∙ labels-append (joined gs) g)
    ∙ replay-append (labels (joined gs)) (labels g) (start b) pt.kernel v.point.kernel before (ap (λ (ls : List Line). replay pt.kernel (labels ls)) (sym lines) ∙ group_replay b pt e v is)

-- where the machines do what the rule says, the run goes on
goes_on : (b : Boot) (ds : List Directive) (gs : List (List Line)) (pt : Point) (left : Todo) (w : WorldState) (n : Next) → IsValid b → pt.kernel.machines ≡ length b.machines → RunStands b ds gs pt left w
    → next_step pt.kernel.machines pt left ≡ Some n → NextFits (length b.machines) n → MayStep b w n.step → (g : GoesOn b w pt n.step) → AreReadBack (gave b w n.step) → RunStands b ds (gs ++ g.said.lines ∷ []) g.group.point n.left g.said.state
goes_on b ds gs pt left w n valid machines r is fits may g again =
    let on = leads_last b r.steps (first_point b) pt n.step g.group r.leads (subst (λ (k : ℕ). IsStep k n.step) (sym machines) fits.step) g.due in
    let lines = sym g.lines in
    let replays = replays_last b gs pt n.step g.group g.said.lines r.good.replays g.due lines in
    let ((l, h, stands), count) = g.stands in
    let kept : IsKept b g.group.point = record { once = λ id. stands_once_always b (r.steps ++ n.step ∷ []) g.group.point id valid on; counts = stands.counts } in
    record {
      good = search (run_last b gs (first_point b) pt (all_of ds) left n g.group g.said.lines r.good.run is g.due lines kept, received_once);
      steps = r.steps ++ n.step ∷ [];
      leads = on;
      todo = fits.left;
      stands = g.stands;
      able = acts_step kernel_stays b w n.step g.said valid may g.happens r.able;
      readable = readable_step b w n.step g.said may g.happens again r.readable;
    }

pub run_goes_on_by : StepsStand → RunGoesOn
run_goes_on_by steps b ds gs pt left w n valid r is =
    let due : next_step pt.kernel.machines pt left ≡ Some n = sym (next_is_said b r.steps w pt left valid r.leads r.stands r.todo) ∙ is in
    let fits = next_fits (length b.machines) (world.world_seen (length b.machines) w) left n r.todo is in
    let (may, does) = steps b r.steps w pt n.step valid r.leads r.stands r.able r.readable fits.step in
    record { may = may; steps = does; on = λ g. goes_on b ds gs pt left w n valid (machines_stay b r.steps pt valid r.leads) r due fits may g }

-- A run of directives is a run of more of them, as far as it has come.

-- with more directives behind
abbrev pub behind : List Directive → Todo → Todo
behind more t = record t { directives = t.directives ++ more }

abbrev pub next_behind : List Directive → Next → Next
next_behind more n = record { step = n.step; left = behind more n.left }

turn_behind : (takes : ℕ → Bool) (more : List Directive) (t : Todo) (ms : List ℕ) → next_turn takes (behind more t) ms ≡ option_map (next_behind more) (next_turn takes t ms)
turn_behind takes more t [] = refl
turn_behind takes more t (m ∷ ms) = grind (arith, nat_tests, turn_behind takes more t ms)

pass_behind : (seen : Seen) (more : List Directive) (t : Todo) (o : Option (Step × List Two)) → in_pass seen (behind more t) o ≡ option_map (next_behind more) (in_pass seen t o)
pass_behind seen more t o = grind (arith, nat_tests, turn_behind)

begin_behind : (machines : ℕ) (seen : Seen) (p : Pass) (ds more : List Directive) → begin_pass machines seen p (ds ++ more) ≡ option_map (next_behind more) (begin_pass machines seen p ds)
begin_behind machines seen p ds more = pass_behind seen more (pass_begun machines p ds) (next_delivery seen.first (pairs_of (below machines) (below machines)))

-- an equation under `Some` is kept
kept_behind : (more : List Directive) (o p : Option Next) (n : Next) → p ≡ option_map (next_behind more) o → o ≡ Some n → p ≡ Some (next_behind more n)
kept_behind more o p n e f = e ∙ ap (option_map (next_behind more)) f

or_behind : (more : List Directive) (a b p q : Option Next) (n : Next) → p ≡ option_map (next_behind more) a → (b ≡ Some n → q ≡ Some (next_behind more n)) → or a b ≡ Some n → or p q ≡ Some (next_behind more n)
or_behind more a b p q n e f is = grind (arith, nat_tests, option_map)

settles_behind : (quiet : Bool) (more : List Directive) (a b p q : Option Next) (n : Next) → p ≡ option_map (next_behind more) a → (b ≡ Some n → q ≡ Some (next_behind more n)) → settles quiet a b ≡ Some n → settles quiet p q ≡ Some (next_behind more n)
settles_behind quiet more a b p q n e f is = grind (arith, nat_tests, or_behind)

directive_behind : (machines : ℕ) (seen : Seen) (ds more : List Directive) (n : Next) → next_directive machines seen ds ≡ Some n → next_directive machines seen (ds ++ more) ≡ Some (next_behind more n)
directive_behind machines seen [] more n e = none_some n e
directive_behind machines seen (Directive.One s ∷ ds) more n e = ap (option_map (next_behind more)) e
directive_behind machines seen (Directive.Round ∷ ds) more n e = kept_behind more _ _ n (begin_behind machines seen (Pass.Round 0) ds more) e
directive_behind machines seen (Directive.Spin zero ∷ ds) more n e = directive_behind machines seen ds more n e
directive_behind machines seen (Directive.Spin (suc k) ∷ ds) more n e = kept_behind more _ _ n (begin_behind machines seen (Pass.Round k) ds more) e
directive_behind machines seen (Directive.Rest zero ∷ ds) more n e = directive_behind machines seen ds more n e
directive_behind machines seen (Directive.Rest (suc k) ∷ ds) more n e =
    settles_behind (at_rest machines seen) more (begin_pass machines seen (Pass.Rest k) ds) (next_directive machines seen ds) (begin_pass machines seen (Pass.Rest k) (ds ++ more)) (next_directive machines seen (ds ++ more)) n
    (begin_behind machines seen (Pass.Rest k) ds more) (directive_behind machines seen ds more n) e
directive_behind machines seen (Directive.Settle ∷ ds) more n e =
    settles_behind seen.quiet more (begin_pass machines seen Pass.Settle ds) (next_directive machines seen ds) (begin_pass machines seen Pass.Settle (ds ++ more)) (next_directive machines seen (ds ++ more)) n
    (begin_behind machines seen Pass.Settle ds more) (directive_behind machines seen ds more n) e

later_behind : (machines : ℕ) (seen : Seen) (p : Pass) (ds more : List Directive) (n : Next) → next_pass machines seen p ds ≡ Some n → next_pass machines seen p (ds ++ more) ≡ Some (next_behind more n)
later_behind machines seen p ds more n e = grind (arith, nat_tests, directive_behind, kept_behind, begin_behind)

unless_behind : (over : Bool) (more : List Directive) (o p : Option Next) → p ≡ option_map (next_behind more) o → (if over then None else p) ≡ option_map (next_behind more) (if over then None else o)
unless_behind over more o p e = grind (arith, nat_tests)

pub run_behind : (b : Boot) (gs : List (List Line)) (pt end : Point) (t left : Todo) (more : List Directive) → IsRun b pt t gs end left → IsRun b pt (behind more t) gs end (behind more left)
run_behind b [] pt end t left more (e, f) = (e, ap (behind more) f)
run_behind b (g ∷ gs) pt end t left more (n, w, next, is, said, kept, rest) = (
  next_behind more n,
  w,
  search (or_behind, unless_behind, pass_behind, later_behind),
  is,
  said,
  kept,
  run_behind b gs w.point end n.left left more rest,
)
