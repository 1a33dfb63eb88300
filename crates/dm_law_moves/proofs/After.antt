-- The lines of a group lead to where the group leads; and what each group keeps holds wherever the rule leads.
use Rattle.dm_law_moves.proofs.Names.{◌≡◌, List, [], ◌∷◌, ◌++◌, refl, ap, ◌∙◌, Option, Some, Boot, bind, bind-is, Step, Line, Part, Spelled, spelled, Point, after_line, after, group_of, by_parts, by_group, moved, subst, IsStep, IsValid}
use Rattle.dm_law_moves.proofs.Names.{Leads, first_point, Run, Both, both_start, both_group, run_start, run_group}

pub after-append : (xs ys : List Line) (pt mid end : Point) → after pt xs ≡ Some mid → after mid ys ≡ Some end → after pt (xs ++ ys) ≡ Some end
after-append [] ys pt mid end e f = let g : pt ≡ mid = cc in ap (λ (x : Point). after x ys) g ∙ f
after-append (x ∷ xs) ys pt mid end e f =
    let (next, first, rest) = bind-is (after_line pt x) (λ (q : Point). after q xs) mid e in
    ap (λ (o : Option Point). bind o (λ (q : Point). after q (xs ++ ys))) first ∙ after-append xs ys next mid end rest f

pub spelled_after : (ps : List Part) (pt : Point) (w : Spelled) → spelled pt ps ≡ Some w → after pt w.lines ≡ Some w.point
spelled_after = by_parts (λ ps pt w. after pt w.lines ≡ Some w.point) (λ pt. refl) (λ p ps pt next ls z lines leads rest. after-append ls z.lines pt next z.point leads rest)

pub group_after : (b : Boot) (pt : Point) (d : Step) (w : Spelled) → group_of b pt d ≡ Some w → after pt w.lines ≡ Some w.point
group_after b pt d w = by_group (λ v. after pt v.lines ≡ Some v.point) b pt d w (λ ps rest is said. spelled_after ps (moved pt (Line.Head d) pt.kernel) rest said)

-- what each group keeps that a run goes by holds wherever the rule leads
keeps_on : (b : Boot) (P : Point → Type 0) → ((pt : Point) (d : Step) (w : Spelled) → IsStep pt.kernel.machines d → group_of b pt d ≡ Some w → Run b pt → P pt → P w.point) → IsValid b → (es : List Step) (pt end : Point) → Leads b pt es end → Both b pt → P pt → P end
keeps_on b P one valid [] pt end leads both h = subst P leads h
keeps_on b P one valid (d ∷ ds) pt end (w, fit, is, rest) both h = keeps_on b P one valid ds w.point end rest (both_group run_group b pt d w valid fit is both) (one pt d w fit is both.run h)

pub keeps_always : (b : Boot) (P : Point → Type 0) → ((pt : Point) (d : Step) (w : Spelled) → IsStep pt.kernel.machines d → group_of b pt d ≡ Some w → Run b pt → P pt → P w.point) → IsValid b → P (first_point b) → (es : List Step) (pt : Point) → Leads b (first_point b) es pt → P pt
keeps_always b P one valid h es pt leads = keeps_on b P one valid es (first_point b) pt leads (both_start run_start b valid) h
