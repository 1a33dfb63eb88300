-- The groups of a settle are steps of one, and so they put few messages where no process moves.
use Rattle.dm_law_runs.proofs.Names.{◌≡◌, ℕ, zero, suc, ◌<◌, ◌≤◌, Bool, true, false, List, [], ◌∷◌, ◌++◌, length, refl, ap, ◌∙◌, sym, subst, inl, inr, arith, if◌then◌else◌, All, Option, None, Some, cases_Bool, false≢true, All-nil, Boot}
use Rattle.dm_law_runs.proofs.Names.{IsValid, Directive, Step, Line, Pass, Next, Todo, all_of, begin_pass, below, in_pass, is_over, next_delivery, next_directive, next_pass, or, pairs_of, pass_begun, IsRun, next_step, undelivered, IsStep}
use Rattle.dm_law_runs.proofs.Names.{Leads, Spelled, Point, first_point, has_mail, is_quiet, group_of, View, passes_quiet, quiet_passes, run_always, count, count-append, leads_append, IsDirective, IsTodo, IsTwo, IsBelow, next_fits}
use Rattle.dm_law_runs.proofs.Names.{IsSettleStep, SettlesBy, says_put, or_is, pass_stays, settles_is, unless_is, few_puts, settles_always, SettleFew, SettlesFromStart, puts_in, settle_begun}
use Rattle.dm_line.specs.Todo.{Seen, at_rest, following}
use Rattle.dm_law_rule.specs.Good.{seen_at}
use Rattle.dm_law_moves.proofs.Settles.RestHas.{none_if}

-- a group takes a directive, or stays in a pass
begun_same : (machines : ℕ) (seen : Seen) (p : Pass) (ds : List Directive) (n : Next) → begin_pass machines seen p ds ≡ Some n → n.left.directives ≡ ds
begun_same machines seen p ds n e = (pass_stays seen (pass_begun machines p ds) (next_delivery seen.first (pairs_of (below machines) (below machines))) n e).directives

begun_shorter : (machines : ℕ) (seen : Seen) (p : Pass) (ds : List Directive) (n : Next) → begin_pass machines seen p ds ≡ Some n → length n.left.directives ≤ length ds
begun_shorter machines seen p ds n e = let s = ap length (begun_same machines seen p ds n e) in omega (arith, s)

directive_shorter : (machines : ℕ) (seen : Seen) (ds : List Directive) (n : Next) → next_directive machines seen ds ≡ Some n → length n.left.directives < length ds
directive_shorter machines seen [] n e = cc
directive_shorter machines seen (Directive.One s ∷ ds) n e =
    let k : Next = record { step = s; left = all_of ds } in
    let f : k ≡ n = cc in
    subst (λ (x : Next). length x.left.directives < suc (length ds)) f (omega arith)
directive_shorter machines seen (Directive.Round ∷ ds) n e = let s = begun_shorter machines seen (Pass.Round 0) ds n e in omega (arith, s)
directive_shorter machines seen (Directive.Spin zero ∷ ds) n e = let s = directive_shorter machines seen ds n e in omega (arith, s)
directive_shorter machines seen (Directive.Spin (suc k) ∷ ds) n e = let s = begun_shorter machines seen (Pass.Round k) ds n e in omega (arith, s)
directive_shorter machines seen (Directive.Rest zero ∷ ds) n e = let s = directive_shorter machines seen ds n e in omega (arith, s)
directive_shorter machines seen (Directive.Rest (suc k) ∷ ds) n e =
    elim (settles_is (at_rest machines seen) (begin_pass machines seen (Pass.Rest k) ds) (next_directive machines seen ds) n e) [
      | inl begins ↦ let s = begun_shorter machines seen (Pass.Rest k) ds n begins in omega (arith, s)
      | inr later ↦ let s = directive_shorter machines seen ds n later in omega (arith, s)
    ]
directive_shorter machines seen (Directive.Settle ∷ ds) n e =
    elim (settles_is seen.quiet (begin_pass machines seen Pass.Settle ds) (next_directive machines seen ds) n e) [
      | inl begins ↦ let s = begun_shorter machines seen Pass.Settle ds n begins in omega (arith, s)
      | inr later ↦ let s = directive_shorter machines seen ds n later in omega (arith, s)
    ]

later_shorter : (machines : ℕ) (seen : Seen) (p : Pass) (ds : List Directive) (n : Next) → next_pass machines seen p ds ≡ Some n → length n.left.directives ≤ length ds
later_shorter machines seen (Pass.Round zero) ds n e = let s = directive_shorter machines seen ds n e in omega (arith, s)
later_shorter machines seen (Pass.Round (suc k)) ds n e = begun_shorter machines seen (Pass.Round k) ds n e
later_shorter machines seen (Pass.Rest zero) ds n e = let s = directive_shorter machines seen ds n e in omega (arith, s)
later_shorter machines seen (Pass.Rest (suc k)) ds n e =
    elim (settles_is (at_rest machines seen) (begin_pass machines seen (Pass.Rest k) ds) (next_directive machines seen ds) n e) [
      | inl begins ↦ begun_shorter machines seen (Pass.Rest k) ds n begins
      | inr later ↦ let s = directive_shorter machines seen ds n later in omega (arith, s)
    ]
later_shorter machines seen Pass.Settle ds n e =
    elim (settles_is seen.quiet (begin_pass machines seen Pass.Settle ds) (next_directive machines seen ds) n e) [
      | inl begins ↦ begun_shorter machines seen Pass.Settle ds n begins
      | inr later ↦ let s = directive_shorter machines seen ds n later in omega (arith, s)
    ]

next_shorter : (machines : ℕ) (seen : Seen) (t : Todo) (n : Next) → following machines seen t ≡ Some n → length n.left.directives ≤ length t.directives
next_shorter machines seen t n e =
    let here = in_pass seen t (next_delivery seen.first t.pairs) in
    elim (or_is (if is_over machines seen t.pass then None else here) (next_pass machines seen t.pass t.directives) n e) [
      | inl found ↦ let s = ap length (pass_stays seen t (next_delivery seen.first t.pairs) n (unless_is (is_over machines seen t.pass) here n found)).directives in omega (arith, s)
      | inr later ↦ later_shorter machines seen t.pass t.directives n later
    ]

run_shorter : (b : Boot) (gs : List (List Line)) (pt end : Point) (t left : Todo) → IsRun b pt t gs end left → length left.directives ≤ length t.directives
run_shorter b [] pt end t left run = let s = ap (λ (x : Todo). length x.directives) run.1 in omega (arith, s)
run_shorter b (g ∷ gs) pt end t left (n, w, due, group, said, kept, rest) =
    let s = next_shorter pt.kernel.machines (seen_at pt.kernel.machines pt) t n due in
    let r = run_shorter b gs w.point end n.left left rest in
    omega (arith, s, r)

-- the steps of a settle's groups
record Stepped (b : Boot) (pt : Point) (gs : List (List Line)) (end : Point) : Type 0 where
  steps : List Step
  lines : List Line
  by_steps : SettlesBy b pt steps lines end
  same : puts_in gs ≡ count says_put lines

none_stepped : (b : Boot) (pt end : Point) → pt ≡ end → Stepped b pt [] end
none_stepped b pt end e = record { steps = []; lines = []; by_steps = (refl, e); same = refl }

more_stepped : (b : Boot) (pt end : Point) (g : List Line) (gs : List (List Line)) (d : Step) (w : Spelled) → IsStep pt.kernel.machines d → IsSettleStep pt.view d → group_of b pt d ≡ Some w → w.lines ≡ g → Stepped b w.point gs end → Stepped b pt (g ∷ gs) end
more_stepped b pt end g gs d w fit is group said h = record {
  steps = d ∷ h.steps;
  lines = w.lines ++ h.lines;
  by_steps = (w, h.lines, fit, is, group, refl, h.by_steps);
  same = (let s = h.same in let both = count-append says_put w.lines h.lines in let one = ap (count says_put) said in omega (arith, s, both, one));
}

settling : (b : Boot) (gs : List (List Line)) (es : List Step) (pt end : Point) (t left : Todo) → IsValid b → Leads b (first_point b) es pt → IsTodo (length b.machines) t → t.pass ≡ Pass.Settle → IsRun b pt t gs end left → length t.directives ≤ length left.directives
    → Stepped b pt gs end
settling b [] es pt end t left valid way todo settle run long = none_stepped b pt end run.0
settling b (g ∷ gs) es pt end t left valid way todo settle (n, w, due, group, said, kept, more) long =
    let v = pt.view in
    let m = pt.kernel.machines in
    let machines : m ≡ length b.machines = (run_always b es pt valid way).run.based.machines in
    let h = settles_always b es pt t valid way settle in
    let fits = next_fits (length b.machines) (seen_at (length b.machines) pt) t n todo (ap (λ (k : ℕ). next_step k pt t) (sym machines) ∙ due) in
    elim (cases_Bool (is_quiet m v)) [
      | inl quiet ↦
          let later : next_step m pt (all_of t.directives) ≡ Some n = sym (h.over (passes_quiet m v quiet)) ∙ due in
          let less = directive_shorter m (seen_at m pt) t.directives n later in
          let rest = run_shorter b gs w.point end n.left left more in
          absurd (omega (arith, long, less, rest))
      | inr not_quiet ↦
          let goes = h.goes (λ q. false≢true (sym not_quiet ∙ quiet_passes m v q)) in
          let found = goes.is in
          let same : goes.next ≡ n = cc in
          let fit : IsStep m n.step = subst (λ (k : ℕ). IsStep k n.step) (sym machines) fits.step in
          let is : IsSettleStep v n.step = subst (λ (x : Next). IsSettleStep v x.step) same goes.step in
          let still : n.left.pass ≡ Pass.Settle = subst (λ (x : Next). x.left.pass ≡ Pass.Settle) same goes.pass in
          let behind : n.left.directives ≡ t.directives = subst (λ (x : Next). x.left.directives ≡ t.directives) same goes.behind in
          let long_ = ap length behind in
          let next : Leads b (first_point b) (es ++ n.step ∷ []) w.point = leads_append b es (n.step ∷ []) (first_point b) pt w.point way (w, fit, group, refl) in
          more_stepped b pt end g gs n.step w fit is group said (settling b gs (es ++ n.step ∷ []) w.point end n.left left valid next fits.left still more (omega (arith, long, long_)))
    ]

begun_is : (pt : Point) (ds : List Directive) → next_step pt.kernel.machines pt (all_of (Directive.Settle ∷ ds)) ≡ next_step pt.kernel.machines pt (settle_begun ds)
begun_is pt ds =
    let m = pt.kernel.machines in
    sym (ap (λ (o : Option Next). or o (next_pass m (seen_at m pt) Pass.Settle ds)) (none_if (is_quiet m pt.view)))

pub settles_from_start : SettlesFromStart
settles_from_start b es ds pt valid way =
    let e = begun_is pt ds in
    let h = settles_always b es pt (settle_begun ds) valid way refl in
    record { over = λ quiet. e ∙ h.over quiet; as_begun = e; goes = h.goes }

begins : (b : Boot) (gs : List (List Line)) (es : List Step) (pt end : Point) (ds : List Directive) (left : Todo) → IsValid b → All (IsDirective (length b.machines)) ds → Leads b (first_point b) es pt → IsRun b pt (all_of (Directive.Settle ∷ ds)) gs end left
    → length ds ≤ length left.directives → Stepped b pt gs end
begins b [] es pt end ds left valid fit way run long = none_stepped b pt end run.0
begins b (g ∷ gs) es pt end ds left valid fit way (n, w, due, group, said, kept, more) long =
    let begun = settle_begun ds in
    let e = begun_is pt ds in
    let todo : IsTodo (length b.machines) begun = record { pairs = All-nil (IsTwo (length b.machines)); machines_ = All-nil (IsBelow (length b.machines)); directives = fit } in
    settling b (g ∷ gs) es pt end begun left valid way todo refl (n, w, sym e ∙ due, group, said, kept, more) long

pub settle_few : SettleFew
settle_few b es ds gs pt end left valid fit way light run long =
    let s = begins b gs es pt end ds left valid fit way run long in
    let few = few_puts b es s.steps pt end s.lines valid way light s.by_steps in
    let same = s.same in
    omega (arith, few, same)
