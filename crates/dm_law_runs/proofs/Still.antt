-- Where no directive moves a process, neither does any elementary one of it.
use Rattle.dm_law_runs.proofs.Names.{◌≡◌, ℕ, zero, suc, Bool, true, false, List, [], ◌∷◌, ◌++◌, length, refl, ap, ◌∙◌, sym, subst, ⊤, if◌then◌else◌, Option, None, Some, All-nil, Boot, Step, Directive, Line, Pass, Two, Todo, Next}
use Rattle.dm_law_runs.proofs.Names.{next_and_left, all_of, below, pairs_of, here_or_later, next_delivery, pass_begun, takes_turn, next_turn, in_pass, or, begin_pass, settles, next_directive, next_pass, is_over, following, next_step}
use Rattle.dm_law_runs.proofs.Names.{undelivered, IsRun, IsStep, IsStill, AreStill, Point, first_point, has_mail, is_quiet, LeadsBy, receives_in_order, IsTwo, IsTodo, joined, machines_group, next_fits, MoveNothing, GoodInOrder}
use Rattle.dm_line.specs.Todo.{Seen, at_rest}
use Rattle.dm_law_rule.specs.Good.{seen_at}

-- what follows moves nothing, and neither does what is left then
abbrev NextStill : Option Next → Type 0
NextStill None = ⊤
NextStill (Some n) = IsStill n.step × MoveNothing n.left.directives

abbrev FirstStill : Option (Step × List Two) → Type 0
FirstStill None = ⊤
FirstStill (Some d) = IsStill d.0

here_still : (p : Two) (ps : List Two) (o : Option ℕ) (later : Option (Step × List Two)) → FirstStill later → FirstStill (here_or_later p ps o later)
here_still p ps None later h = h
here_still p ps (Some k) later h = tt

delivery_still : (first : ℕ → ℕ → Option ℕ) (ps : List Two) → FirstStill (next_delivery first ps)
delivery_still first [] = tt
delivery_still first (p ∷ ps) = here_still p ps (first p.from p.to) (next_delivery first ps) (delivery_still first ps)

turn_or_later : (t : Todo) (m : ℕ) (ms : List ℕ) (b : Bool) (o : Option Next) → MoveNothing t.directives → NextStill o → NextStill (if b then next_and_left (Step.Turn m) (record t { pairs = []; machines = ms }) else o)
turn_or_later t m ms true o h later = (tt, h)
turn_or_later t m ms false o h later = later

turn_still : (takes : ℕ → Bool) (t : Todo) (ms : List ℕ) → MoveNothing t.directives → NextStill (next_turn takes t ms)
turn_still takes t [] h = tt
turn_still takes t (m ∷ ms) h = turn_or_later t m ms (takes m) (next_turn takes t ms) h (turn_still takes t ms h)

pass_still : (seen : Seen) (t : Todo) (d : Option (Step × List Two)) → MoveNothing t.directives → FirstStill d → NextStill (in_pass seen t d)
pass_still seen t None h k = turn_still (takes_turn t.pass seen) t t.machines h
pass_still seen t (Some d) h k = (k, h)

begun_still : (machines : ℕ) (seen : Seen) (p : Pass) (ds : List Directive) → MoveNothing ds → NextStill (begin_pass machines seen p ds)
begun_still machines seen p ds h =
    pass_still seen (pass_begun machines p ds) (next_delivery seen.first (pairs_of (below machines) (below machines))) h (delivery_still seen.first (pairs_of (below machines) (below machines)))

or_still : (x y : Option Next) → NextStill x → NextStill y → NextStill (or x y)
or_still None y h k = k
or_still (Some n) y h k = h

settles_still : (quiet : Bool) (x y : Option Next) → NextStill x → NextStill y → NextStill (settles quiet x y)
settles_still true x y h k = k
settles_still false x y h k = or_still x y h k

directive_still : (machines : ℕ) (seen : Seen) (ds : List Directive) → MoveNothing ds → NextStill (next_directive machines seen ds)
directive_still machines seen [] h = tt
directive_still machines seen (Directive.One s ∷ ds) h = h
directive_still machines seen (Directive.Round ∷ ds) h = begun_still machines seen (Pass.Round 0) ds h.1
directive_still machines seen (Directive.Spin zero ∷ ds) h = directive_still machines seen ds h.1
directive_still machines seen (Directive.Spin (suc n) ∷ ds) h = begun_still machines seen (Pass.Round n) ds h.1
directive_still machines seen (Directive.Rest zero ∷ ds) h = directive_still machines seen ds h.1
directive_still machines seen (Directive.Rest (suc n) ∷ ds) h =
    settles_still (at_rest machines seen) (begin_pass machines seen (Pass.Rest n) ds) (next_directive machines seen ds) (begun_still machines seen (Pass.Rest n) ds h.1) (directive_still machines seen ds h.1)
directive_still machines seen (Directive.Settle ∷ ds) h =
    settles_still seen.quiet (begin_pass machines seen Pass.Settle ds) (next_directive machines seen ds) (begun_still machines seen Pass.Settle ds h.1) (directive_still machines seen ds h.1)

later_still : (machines : ℕ) (seen : Seen) (p : Pass) (ds : List Directive) → MoveNothing ds → NextStill (next_pass machines seen p ds)
later_still machines seen (Pass.Round zero) ds h = directive_still machines seen ds h
later_still machines seen (Pass.Round (suc k)) ds h = begun_still machines seen (Pass.Round k) ds h
later_still machines seen (Pass.Rest zero) ds h = directive_still machines seen ds h
later_still machines seen (Pass.Rest (suc k)) ds h =
    settles_still (at_rest machines seen) (begin_pass machines seen (Pass.Rest k) ds) (next_directive machines seen ds) (begun_still machines seen (Pass.Rest k) ds h) (directive_still machines seen ds h)
later_still machines seen Pass.Settle ds h =
    settles_still seen.quiet (begin_pass machines seen Pass.Settle ds) (next_directive machines seen ds) (begun_still machines seen Pass.Settle ds h) (directive_still machines seen ds h)

unless_still : (over : Bool) (o : Option Next) → NextStill o → NextStill (if over then None else o)
unless_still true o h = tt
unless_still false o h = h

next_still : (machines : ℕ) (seen : Seen) (t : Todo) (n : Next) → MoveNothing t.directives → following machines seen t ≡ Some n → NextStill (Some n)
next_still machines seen t n h is =
    let here = in_pass seen t (next_delivery seen.first t.pairs) in
    subst NextStill is
    (or_still (if is_over machines seen t.pass then None else here) (next_pass machines seen t.pass t.directives)
    (unless_still (is_over machines seen t.pass) here (pass_still seen t (next_delivery seen.first t.pairs) h (delivery_still seen.first t.pairs)))
    (later_still machines seen t.pass t.directives h))

-- a run
record LeadsStill (b : Boot) (pt end : Point) (ls : List Line) : Type 0 where
  steps : List Step
  still : AreStill steps
  leads : LeadsBy b pt steps ls end

run_still : (b : Boot) (gs : List (List Line)) (pt end : Point) (t left : Todo) → pt.kernel.machines ≡ length b.machines → IsTodo (length b.machines) t → MoveNothing t.directives → IsRun b pt t gs end left → LeadsStill b pt end (joined gs)
run_still b [] pt end t left machines todo none run = record { steps = []; still = tt; leads = (refl, run.0) }
run_still b (g ∷ gs) pt end t left machines todo none (n, w, due, is, said, kept, rest) =
    let fits = next_fits (length b.machines) (seen_at (length b.machines) pt) t n todo (sym (ap (λ (k : ℕ). next_step k pt t) machines) ∙ due) in
    let still = next_still pt.kernel.machines (seen_at pt.kernel.machines pt) t n none due in
    let more = run_still b gs w.point end n.left left (machines_group b pt n.step w is ∙ machines) fits.left still.1 rest in
    record {
      steps = n.step ∷ more.steps;
      still = (still.0, more.still);
      leads = (w, joined gs, subst (λ (k : ℕ). IsStep k n.step) (sym machines) fits.step, is, ap (λ (ls : List Line). ls ++ joined gs) (sym said), more.leads);
    }

pub good_in_order : GoodInOrder
good_in_order b ds gs end left before between after from to n k channel valid fit none unasked good are first second =
    let run =
    run_still b gs (first_point b) end (all_of ds) left refl (record { pairs = All-nil (IsTwo (length b.machines)); machines_ = All-nil _; directives = fit }) none good.run in
    receives_in_order b run.steps (joined gs) end before between after from to n k channel valid run.still unasked run.leads are first second
