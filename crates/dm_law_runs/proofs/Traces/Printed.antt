-- What the machines print is what the rule says.
use Rattle.dm_law_runs.proofs.Names.{◌≡◌, ℕ, inl, inr, Bool, List, [], ◌∷◌, ◌++◌, length, refl, ap, sym, ◌∙◌, subst, All, Boot, IsValid, Step, Line, EndLine, all_of, ones, IsStep, Spelled, Point, first_point, group_of, IsWorn}
use Rattle.std.proofs.Common.{Some}
use Rattle.dm_law_runs.proofs.Names.{labels, LineFits, text_of_lines, Ran, RanGoes, joined, WorldState, Said, WornOut, ends_of, IsFull, Verdict, EndsFit, IsPrinted, IsTrace, text_behind}
use Rattle.dm_world.specs.World.{Says}
use Rattle.dm_law_runs.proofs.Names.{ran_begins, ran_goes_on, end_is_said, Went, begins, goes, Does, WearsBy, ComesTo, SaysAs, by_rule, verdict}
use Rattle.dm_schedule.specs.declared.Step.TheVariants as step
use Rattle.dm_run.specs.Runs as run
use Rattle.dm_law_runs.proofs.Traces.Fulls.{ends_full}
use Rattle.dm_law_runs.proofs.Traces.Groups.{fresh_group, kept_last}
use Rattle.dm_law_runs.proofs.Traces.KeptNames.{names_always}
use Rattle.dm_law_runs.proofs.Traces.Led.{ends_there, group_there, led_of, worn_there}
use Rattle.dm_check.specs.Judged.{DueIn, WearsAs}
use Rattle.dm_check.specs.declared.refusal.WasDue.{WasDue}
use Rattle.dm_law_runs.proofs.Names.{Option, bind, worn_in}
use Rattle.dm_law_runs.specs.Traces.DueStands.{worn_by_rule}
unfoldable use Rattle.dm_law_runs.specs.Traces.DueStands.{due_by_rule}

joined_same : (gs : List (List Line)) → run.joined gs ≡ joined gs
joined_same [] = refl
joined_same (g ∷ gs) = ap (λ (ls : List Line). g ++ ls) (joined_same gs)

pub step_same : (n : ℕ) (e : Step) → run.IsStep n e → IsStep n e
step_same n (step.Turn m) h = h
step_same n (step.Tick m) h = h
step_same n (step.Deliver a b k) h = h
step_same n (step.Migrate p m) h = h
step_same n (step.CallOff p m) h = h

-- a run of the machines stands for one by the rule
pub record RanThere (b : Boot) (es : List Step) (gs : List (List Line)) (w : WorldState) : Type 0 where
  pub point : Point
  pub ran : Ran b es gs point w

-- so does one more group
record RanOn (b : Boot) (es : List Step) (gs : List (List Line)) (pt : Point) (e : Step) (lines : List Line) (w : WorldState) : Type 0 where
  spelled : Spelled
  due : group_of b pt e ≡ Some spelled
  said : lines ≡ spelled.lines
  ran : Ran b (es ++ e ∷ []) (gs ++ lines ∷ []) spelled.point w

ran_on : (b : Boot) (es : List Step) (gs : List (List Line)) (pt : Point) (w : WorldState) (e : Step) (lines : List Line) (u : WorldState) → IsValid b → Ran b es gs pt w → Does b w e lines u → RanOn b es gs pt e lines u
ran_on b es gs pt w e lines u valid r d =
    let said : Said = record { state = u; lines = lines } in
    let k : RanGoes b es gs pt w e = ran_goes_on b es gs pt w e valid r (step_same (length b.machines) e d.fits) in
    elim (k.steps d.whole) [
      | inl g ↦ subst (λ (x : Said). RanOn b es gs pt e x.lines x.state) (let f = g.happens in let h = d.happens in let same : g.said ≡ said = cc in same)
          (record { spelled = g.group; due = g.due; said = g.lines; ran = k.on g d.again })
      | inr s ↦ absurd (let f = s.happens in let h = d.happens in let bad : Says said ≡ WornOut s.from s.to = cc in cc)
    ]

pub ran_of : (b : Boot) (es : List Step) (gs : List (List Line)) (w : WorldState) → IsValid b → Went b es gs w → RanThere b es gs w
ran_of b _ _ _ valid begins = record { point = first_point b; ran = ran_begins b valid }
ran_of b _ _ _ valid (goes es gs w e lines u before d) =
    let h = ran_of b es gs w valid before in
    let k = ran_on b es gs h.point w e lines u valid h.ran d in
    record { point = k.spelled.point; ran = k.ran }

-- where they stop as worn, so does the rule
wears_there : (b : Boot) (es : List Step) (gs : List (List Line)) (pt : Point) (w : WorldState) (e : Step) (from to : ℕ) → IsValid b → Ran b es gs pt w → WearsBy b w e from to → IsWorn b pt e from to
wears_there b es gs pt w e from to valid r d =
    let k : RanGoes b es gs pt w e = ran_goes_on b es gs pt w e valid r (step_same (length b.machines) e d.fits) in
    elim (k.steps d.whole) [
      | inl g ↦ absurd (let f = g.happens in let h = d.happens in let bad : Says g.said ≡ WornOut from to = cc in cc)
      | inr s ↦
          let f : WornOut s.from s.to ≡ WornOut from to = let g = s.happens in let h = d.happens in cc in
          let one : s.from ≡ from = cc in
          let two : s.to ≡ to = cc in
          subst (λ (m : ℕ). IsWorn b pt e from m) two (subst (λ (m : ℕ). IsWorn b pt e m s.to) one s.worn)
    ]

-- the rule says what the machines say
pub rule_says : (b : Boot) → IsValid b → SaysAs b (by_rule b)
rule_says b valid = record {
  machines = refl;
  quantum = refl;
  goes = λ es gs w e lines u went d.
      let h = ran_of b es gs w valid went in
      let r = ran_on b es gs h.point w e lines u valid h.ran d in
      let kept = kept_last b gs lines (first_point b) r.spelled.point (all_of (ones (es ++ e ∷ []))) (all_of []) r.ran.good.run in
      group_there b es h.point e r.spelled (led_of b es (first_point b) h.point h.ran.leads) r.due (fresh_group b h.point e r.spelled r.due kept.counts) ∙ ap (λ (ls : List Line). Some ls) (sym r.said);
  worn = λ es gs w e from to went d.
      let h = ran_of b es gs w valid went in
      let r = wears_there b es gs h.point w e from to valid h.ran d in
      worn_there b es h.point e r.group (record { from = from; to = to }) (led_of b es (first_point b) h.point h.ran.leads) r.due r.first;
  ends = λ es gs w went.
      let h = ran_of b es gs w valid went in
      ends_there b es h.point (led_of b es (first_point b) h.point h.ran.leads) ∙ sym (end_is_said b es w h.point valid h.ran.leads h.ran.stands);
  full = λ es gs w went.
      let h = ran_of b es gs w valid went in
      subst (All IsFull) (sym (ends_there b es h.point (led_of b es (first_point b) h.point h.ran.leads))) (ends_full h.point (names_always b (labels (joined gs)) h.point.kernel h.ran.good.replays));
}

-- and which pair wears
rule_wears : (b : Boot) → IsValid b → WearsAs b (worn_by_rule b)
rule_wears b valid es gs w e from to went d =
    let h = ran_of b es gs w valid went in
    let r = wears_there b es gs h.point w e from to valid h.ran d in
    ap (λ (o : Option Point). bind o (λ (pt : Point). bind (group_of b pt e) (λ (v : Spelled). worn_in b.numbers pt.view v.lines))) (led_of b es (first_point b) h.point h.ran.leads)
    ∙ ap (λ (o : Option Spelled). bind o (λ (v : Spelled). worn_in b.numbers h.point.view v.lines)) r.due ∙ r.first

-- so what was due by whatever says so was due by the rule
pub due_is : (b : Boot) (bytes : List ℕ) (line : ℕ) (due : WasDue) → IsValid b → DueIn b bytes line due → due_by_rule b bytes line ≡ Some due
unfolding due_by_rule
due_is b bytes line due valid h = h (by_rule b) (worn_by_rule b) (rule_says b valid) (rule_wears b valid)

-- so a verdict by whatever says so is that by the rule
pub verdict_is : (b : Boot) (bytes : List ℕ) (v : Verdict) → IsValid b → ComesTo b bytes v → verdict b bytes ≡ v
unfolding verdict
verdict_is b bytes v valid h = h (by_rule b) (rule_says b valid)

-- and what the machines print is a trace by the rule
pub trace_is : (b : Boot) (bytes : List ℕ) (n : ℕ) (ended : Bool) → IsValid b → IsPrinted b bytes n ended → IsTrace b bytes n ended
trace_is b bytes n ended valid p =
    let h = ran_of b p.steps p.groups p.world valid p.went in
    let same = joined_same p.groups in
    let ends = end_is_said b p.steps p.world h.point valid h.ran.leads h.ran.stands in
    record {
      steps = p.steps;
      groups = p.groups;
      end = h.point;
      good = h.ran.good;
      held = p.held;
      heads = p.heads;
      counts = p.counts;
      fits = subst (All LineFits) same p.fits;
      ends_fit = subst (EndsFit ended) ends p.ends_fit;
      text = p.text ∙ ap (λ ls. text_of_lines ls ++ text_behind ended (ends_of b p.world)) same ∙ ap (λ (es : List EndLine). text_of_lines (joined p.groups) ++ text_behind ended es) ends;
    }
