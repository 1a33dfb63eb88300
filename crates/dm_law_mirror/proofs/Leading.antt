-- Good groups are those of the rule, directive by directive.
use Rattle.dm_law_mirror.proofs.Names.{◌≡◌, ℕ, List, [], ◌∷◌, ◌++◌, length, refl, ap, ◌∙◌, sym, subst, All-nil, Boot, Step, Line, Todo, all_of, next_step, IsRun, IsStep, Point, first_point, LeadsBy, IsTwo, IsTodo, joined, GoodLeads, seen_at}
use Rattle.dm_law_mirror.proofs.Machines.{machines_group}
use Rattle.dm_law_mirror.proofs.Next.{next_fits}

run_leads : (b : Boot) (gs : List (List Line)) (pt end : Point) (t left : Todo) → pt.kernel.machines ≡ length b.machines → IsTodo (length b.machines) t → IsRun b pt t gs end left → (es : List Step) × LeadsBy b pt es (joined gs) end
run_leads b [] pt end t left machines todo run = ([], (refl, run.0))
run_leads b (g ∷ gs) pt end t left machines todo (n, w, next, is, said, kept, rest) =
    let fits = next_fits (length b.machines) (seen_at (length b.machines) pt) t n todo (sym (ap (λ (k : ℕ). next_step k pt t) machines) ∙ next) in
    let (es, more) = run_leads b gs w.point end n.left left (machines_group b pt n.step w is ∙ machines) fits.left rest in
    (n.step ∷ es, (w, joined gs, subst (λ (k : ℕ). IsStep k n.step) (sym machines) fits.step, is, ap (λ (ls : List Line). ls ++ joined gs) (sym said), more))

pub good_leads : GoodLeads
good_leads b ds gs end left valid fit h =
    run_leads b gs (first_point b) end (all_of ds) left refl
    (record { pairs = All-nil (IsTwo (length b.machines)); machines_ = All-nil _; directives = fit }) h.run
