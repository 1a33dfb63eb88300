-- The law of runs, by which the commands go.
use Rattle.dm_program.proofs.Runs.Names.{◌≡◌, ◌<◌, ℕ, nat_le, true, List, [], ◌∷◌, ◌++◌, length, refl, ◌∙◌, subst, inl, inr, arith, nat_tests, All, Some, Boot, IsValid, Step, Line, HidesNothing, Leads, Point, first_point, Stands, WorldState, Said, Says, WornOut}
use Rattle.dm_program.proofs.Runs.Names.{machines_stay, GoesOn, Ran, RanGoes, end_may, ran_begins, ran_goes_on, Does, EndsMay, RunsGo, Went, begins, goes}
use Rattle.dm_world.specs.Ends as world_ends
use Rattle.dm_program.proofs.Runs.Finals.{end_hides}
use Rattle.dm_program.proofs.Runs.Fits.{step_fits, step_is}
use Rattle.dm_program.proofs.Runs.Stands.{few_groups, fits_next, is_led}

-- elementary directives that were done stand for what the rule has for them
pub record HasRan (b : Boot) (es : List Step) (gs : List (List Line)) (w : WorldState) : Type 0 where
  pub point : Point
  pub ran : Ran b es gs point w

ran_by : (b : Boot) (es : List Step) (gs : List (List Line)) (pt : Point) (w : WorldState) (e : Step) (lines : List Line) (u : WorldState) → (k : RanGoes b es gs pt w e) → Does b w e lines u → (g : GoesOn b w pt e) → HasRan b (es ++ e ∷ []) (gs ++ lines ∷ []) u
ran_by b es gs pt w e lines u k d g =
    let same : g.said ≡ record { state = u; lines = lines } = let i = g.happens in let j = d.happens in cc in
    subst (λ (x : Said). HasRan b (es ++ e ∷ []) (gs ++ x.lines ∷ []) x.state) same (record { point = g.group.point; ran = k.on g d.again })

one_more : (b : Boot) (es : List Step) (gs : List (List Line)) (w : WorldState) (e : Step) (lines : List Line) (u : WorldState) → IsValid b → HasRan b es gs w → Does b w e lines u → HasRan b (es ++ e ∷ []) (gs ++ lines ∷ []) u
one_more b es gs w e lines u valid h d =
    let k = ran_goes_on b es gs h.point w e valid h.ran (step_fits (length b.machines) e d.fits) in
    elim (k.steps d.whole) [
      | inl g ↦ ran_by b es gs h.point w e lines u k d g
      | inr s ↦ absurd (let i = s.happens in let j = d.happens in let bad : Says (record { state = u; lines = lines }) ≡ WornOut s.from s.to = cc in cc)
    ]

pub has_ran : (b : Boot) (es : List Step) (gs : List (List Line)) (w : WorldState) → IsValid b → Went b es gs w → HasRan b es gs w
has_ran b _ _ _ valid begins = record { point = first_point b; ran = ran_begins b valid }
has_ran b _ _ _ valid (goes es gs w e lines u before d) = one_more b es gs w e lines u valid (has_ran b es gs w valid before) d

-- no line at the end hides a mark
hides : (b : Boot) (es : List Step) (pt : Point) (w : WorldState) → IsValid b → Leads b (first_point b) es pt → Stands b w pt → All HidesNothing (world_ends.end_lines b w)
hides b es pt w valid leads stands =
    let machines : pt.kernel.machines ≡ length b.machines = machines_stay b es pt valid leads in
    end_hides b w (λ m l. (stands.0.2.nodes m (omega (arith, l, machines))).lawful)

ends_may : (b : Boot) (es : List Step) (gs : List (List Line)) (w : WorldState) → IsValid b → HasRan b es gs w → EndsMay b w
ends_may b es gs w valid h = record { may = end_may b es w h.point valid h.ran.leads h.ran.stands; whole = hides b es h.point w valid h.ran.leads h.ran.stands }

pub runs_go : RunsGo
runs_go = record {
  may = λ b es gs w e valid went fits. let h = has_ran b es gs w valid went in (ran_goes_on b es gs h.point w e valid h.ran (step_fits (length b.machines) e fits)).may;
  fits = λ b ds way es gs w e after valid each led comes. step_is (length b.machines) e (fits_next b ds way gs w e after (is_led b ds way es gs w valid each led) comes);
  may_end = λ b es gs w valid went. ends_may b es gs w valid (has_ran b es gs w valid went);
  few = λ b ds way es gs w valid each led. let h = is_led b ds way es gs w valid each led in few_groups b way h.end w h.few;
}
