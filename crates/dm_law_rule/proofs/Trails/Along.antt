-- Along lines that fit, and along runs whose groups' lines do.
use Rattle.dm_law_rule.proofs.Names.{◌≡◌, ℕ, List, [], ◌∷◌, subst, ⊤, Some, Boot, IsValid, Step, bind-is, Line, IsStep, Spelled, Point, after_line, group_of, Trails, Trodden, first_trodden, along, trails_after, LeadsAlong, TrailsAlways, Pid}
use Rattle.dm_law_rule.proofs.Names.{suc, ◌≢◌, Unknown, true, ◌<◌, ◌∙◌, sym, inl, inr, slice_get, cases_Bool, false≢true, is_alive}
use Rattle.dm_law_rule.proofs.Trails.Treads.{Treads, LineFits, line_treads}
use Rattle.dm_law_rule.proofs.Trails.Within.{TrailsIn}
use Rattle.dm_law_rule.proofs.Trails.Found.{treads_start}
use Rattle.dm_law_rule.proofs.Trails.Leads.{trail_leads}

-- each of these lines fits where the ones before lead
abbrev pub AllFit : Point → Trails → List Line → Type 0
AllFit pt t [] = ⊤
AllFit pt t (l ∷ ls) = LineFits pt t l × ((next : Point) → after_line pt l ≡ Some next → AllFit next (trails_after pt.view t l) ls)

pub along_treads : (ls : List Line) (x y : Trodden) → along x ls ≡ Some y → AllFit x.point x.trails ls → Treads x.point x.trails → Treads y.point y.trails
along_treads [] x y is fits h = let f : x ≡ y = cc in subst (λ (z : Trodden). Treads z.point z.trails) f h
along_treads (l ∷ ls) x y is fits h =
    let (next, comes, rest) = bind-is (after_line x.point l) (λ (n : Point). along (record { point = n; trails = trails_after x.point.view x.trails l }) ls) y is in
    along_treads ls (record { point = next; trails = trails_after x.point.view x.trails l }) y rest (fits.1 next comes) (line_treads x.point next x.trails l comes fits.0 h)

-- whatever else holds of all points that the rule leads to, so that the lines of the next group fit
pub record Carries (Holds : Boot → Trodden → Type 0) : Type 0 where
  pub start : (b : Boot) → IsValid b → Holds b (first_trodden b)
  pub fits : (b : Boot) (x : Trodden) (e : Step) (w : Spelled) → IsStep x.point.kernel.machines e → group_of b x.point e ≡ Some w → Holds b x → Treads x.point x.trails → AllFit x.point x.trails w.lines
  pub keeps : (b : Boot) (x y : Trodden) (e : Step) (w : Spelled) → IsStep x.point.kernel.machines e → group_of b x.point e ≡ Some w → along x w.lines ≡ Some y → Holds b x → Treads x.point x.trails → Holds b y
  -- each machine of the trail of what was made is one of those that there are, and a machine knows what lives
  pub ranges : (b : Boot) (x : Trodden) → Holds b x → TrailsIn x.point.kernel.machines x.point.kernel x.trails
  pub there : (b : Boot) (x : Trodden) → Holds b x → (p : Pid) → is_alive x.point.kernel p ≡ true → (m : ℕ) × (x.point.view.known m p ≢ Unknown)

run_treads : (Holds : Boot → Trodden → Type 0) → Carries Holds → (b : Boot) (es : List Step) (x end : Trodden) → LeadsAlong b x es end → Holds b x → Treads x.point x.trails → Holds b end × Treads end.point end.trails
run_treads Holds c b [] x end is g h = (subst (Holds b) is g, subst (λ (z : Trodden). Treads z.point z.trails) is h)
run_treads Holds c b (e ∷ es) x end (w, y, step, group, comes, rest) g h =
    run_treads Holds c b es y end rest (c.keeps b x y e w step group comes g h) (along_treads w.lines x y comes (c.fits b x e w step group g h) h)

pub trails_always_by : (Holds : Boot → Trodden → Type 0) → Carries Holds → TrailsAlways
trails_always_by Holds c b es x h q n valid way named made machines =
    let (g, t) = run_treads Holds c b es (first_trodden b) x way (c.start b valid) (treads_start b valid) in
    let on = t.links h q named in
    let most : (k m : ℕ) → slice_get (x.trails q) k ≡ Some m → m < suc n = λ k m at. subst (λ (most : ℕ). m < most) machines ((c.ranges b x g).within q made k m at) in (
      on,
      elim (cases_Bool (is_alive x.point.kernel q)) [
        | inl alive ↦ let (i, knows) = c.there b x g q alive in trail_leads (is_alive x.point.kernel q) x.point.view x.trails q n i (x.point.addresses h) (t.trail q) (λ e. knows) most on
        | inr over ↦ trail_leads (is_alive x.point.kernel q) x.point.view x.trails q n 0 (x.point.addresses h) (t.trail q) (λ e. absurd (false≢true (sym over ∙ e))) most on
      ],
    )
