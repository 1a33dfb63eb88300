-- Where the printed lines lead, beside where a run of the world has gone.
use Rattle.dm_law_mirror.proofs.Names.{◌≡◌, ℕ, List, [], ◌∷◌, ◌++◌, length, refl, ap, ◌∙◌, sym, subst, inl, inr, Some, Boot, IsValid, Step, Line, Point, first_point, Ran, GoesOn, Said, Spelled, group_of, worn_in, ◌≤◌}
use Rattle.dm_law_rule.specs.Laws as rule
use Rattle.dm_law_rule.specs.Worn.{IsWorn}
use Rattle.dm_run.specs.Runs.{IsStep}
use Rattle.dm_run.specs.Went.{Does, begins}
use Rattle.dm_law_mirror.proofs.Given.{ran_goes_on}
use Rattle.dm_law_mirror.proofs.Machines.{machines_are}
use Rattle.dm_law_mirror.proofs.Single.{ran_begins}
use Rattle.dm_law_runs.proofs.Traces.Groups.{fresh_group}
use Rattle.dm_law_runs.proofs.Traces.Printed.{step_same}
use Rattle.dm_explore.specs.Asked.{Bounds}
use Rattle.dm_explore.specs.Choices.{choices}
use Rattle.dm_explore.specs.Order.{is_away, machine_of}
use Rattle.dm_explore.specs.Past.{Did, groups_of, steps_of}
use Rattle.dm_explore.specs.Places.{Place, after_step, chosen_at, first_place, sight}
use Rattle.dm_explore.specs.Search.{HasGone}
use Rattle.dm_law_runs.specs.Choices.ByRule.{GoesTo, RulePlace}
use Rattle.dm_law_runs.specs.Choices.RuleSight.{SeesSame, rule_sight}
use Rattle.dm_law_runs.proofs.Choices.Behind.{after_says, did, follows, gone_back, gone_on}
use Rattle.dm_law_runs.proofs.Choices.SightsSaid.{sights_are_said}
use Rattle.dm_law_runs.proofs.Choices.ByRule.Fine.{IsFine}
use Rattle.dm_law_runs.proofs.Choices.ByRule.Seen.{away_seen, choices_seen, machine_seen}
use Rattle.dm_law_runs.proofs.Choices.Neighbours.Reaching.{rule_says}

-- the same was done, by the machines and by the rule, and the one stands for the other
pub record Mirrors (b : Boot) (p : Place) (r : RulePlace) : Type 0 where
  pub done : r.done ≡ p.done
  pub gone : HasGone b p
  pub ran : Ran b (steps_of p.done) (groups_of p.done) r.end p.state

pub mirrors_first : (b : Boot) → IsValid b → Mirrors b (first_place b) (record { done = []; end = first_point b })
mirrors_first b valid = record { done = refl; gone = record { led_ = refl; went = begins }; ran = ran_begins b valid }

pub sees_there : (b : Boot) (p : Place) (r : RulePlace) → IsValid b → Mirrors b p r → SeesSame (length b.machines) (sight b p) (rule_sight (length b.machines) r.end)
sees_there b p r valid h = sights_are_said b (steps_of p.done) p.state r.end valid h.ran.leads h.ran.stands

-- the same may be chosen
pub choices_there : (b : Boot) (q : Bounds) (p : Place) (r : RulePlace) → IsValid b → Mirrors b p r → chosen_at b q p ≡ choices (length b.machines) q (rule_sight (length b.machines) r.end) r.done
choices_there b q p r valid h =
    choices_seen (length b.machines) q (sight b p) (rule_sight (length b.machines) r.end) p.done (sees_there b p r valid h)
    ∙ ap (choices (length b.machines) q (rule_sight (length b.machines) r.end)) (sym h.done)

-- for the machines that there are
fits_back : (n : ℕ) (e : Step) → rule.IsStep n e → IsStep n e
fits_back n (Step.Turn m) h = h
fits_back n (Step.Tick m) h = h
fits_back n (Step.Deliver a c k) h = h
fits_back n (Step.Migrate p m) h = h
fits_back n (Step.CallOff p m) h = h

pub fits_world : (b : Boot) (p : Place) (r u : RulePlace) (e : Step) → Mirrors b p r → GoesTo b r e u → IsStep (length b.machines) e
fits_world b p r u e h g = fits_back (length b.machines) e (subst (λ (n : ℕ). rule.IsStep n e) (machines_are b (steps_of p.done) r.end h.ran.leads) g.fits)

-- a directive that the machines do, by the rule
pub record OnByRule (b : Boot) (r : RulePlace) (u : Place) (e : Step) : Type 0 where
  pub place : RulePlace
  pub goes_ : GoesTo b r e place
  pub mirrors : Mirrors b u place

pub on_by_rule : (b : Boot) (p u : Place) (r : RulePlace) (e : Step) → IsValid b → Mirrors b p r → after_step b p e ≡ Some u → HasGone b u → OnByRule b r u e
on_by_rule b p u r e valid h after gone =
    let es = steps_of p.done in
    let gs = groups_of p.done in
    let n = length b.machines in
    let f = follows b p u e after in
    let g = gone_back b p u e h.gone.led_ gone after in
    let said : Said = record { state = u.state; lines = g.lines } in
    let lines_are : g.lines ≡ f.said.lines = (let i = g.does.happens in let j = f.happens in let same : said ≡ f.said = cc in ap (λ (z : Said). z.lines) same) in
    let k = rule_says b es gs r.end p.state e g.lines u.state valid h.ran g.does in
    let w = k.goes_.group in
    let group_lines : w.lines ≡ f.said.lines = sym k.goes_.lines ∙ ap (λ (z : Said). z.lines) k.same ∙ lines_are in
    let sees = sees_there b p r valid h in
    let x : Did = record { step = e; machine = machine_of (rule_sight n r.end) e; away = is_away (rule_sight n r.end) e; lines = w.lines } in
    let machine_is = machine_seen (sight b p) (rule_sight n r.end) e sees.seat in
    let away_is = away_seen (sight b p) (rule_sight n r.end) e sees.seat in
    let x_is : x ≡ did b p e f.said.lines = λ i. record { step = e; machine = sym machine_is i; away = sym away_is i; lines = group_lines i } in
    let next : RulePlace = record { done = x ∷ r.done; end = w.point } in
    let ran : Ran b (es ++ e ∷ []) (gs ++ f.said.lines ∷ []) w.point u.state = subst (λ (ls : List Line). Ran b (es ++ e ∷ []) (gs ++ ls ∷ []) w.point u.state) lines_are (subst (λ (z : Said). Ran b (es ++ e ∷ []) (gs ++ z.lines ∷ []) w.point z.state) k.same k.on) in
    record {
      place = next;
      goes_ = record {
        group = w;
        fits = subst (λ (m : ℕ). rule.IsStep m e) (sym (machines_are b es r.end h.ran.leads)) (step_same n e g.does.fits);
        due = k.goes_.due;
        lasts = λ from to worn. never_worn b r.end e w from to k.goes_.due k.goes_.stands.0.2.counts worn;
        end = refl;
        done = refl;
      };
      mirrors = record {
        done = (λ i. x_is i ∷ h.done i) ∙ sym f.done;
        gone = gone;
        ran = subst (λ (ds : List Did). Ran b (steps_of ds) (groups_of ds) w.point u.state) (sym f.done) ran;
      };
    }
  where
    never_worn : (b : Boot) (pt : Point) (e : Step) (w : Spelled) (from to : ℕ) → group_of b pt e ≡ Some w → ((m c : ℕ) → length (w.point.view.pair m c).ids ≤ b.numbers) → IsWorn b pt e from to → ⊥
    never_worn b pt e w from to due counts worn =
        let same : worn.group ≡ w = (let i = worn.due in let both : Some worn.group ≡ Some w = sym i ∙ due in cc) in
        let none = fresh_group b pt e w due counts in
        let some : worn_in b.numbers pt.view w.lines ≡ Some (record { from = from; to = to }) = ap (λ (z : Spelled). worn_in b.numbers pt.view z.lines) (sym same) ∙ worn.first in
        cc

-- a directive leads to one place by the rule
goes_once : (b : Boot) (r u v : RulePlace) (e : Step) → GoesTo b r e u → GoesTo b r e v → u ≡ v
goes_once b r u v e g k =
    let both : Some g.group ≡ Some k.group = sym g.due ∙ k.due in
    let same : g.group ≡ k.group = cc in
    let end_is : u.end ≡ v.end = g.end ∙ ap (λ (z : Spelled). z.point) same ∙ sym k.end in
    let n = length b.machines in
    let done_is : u.done ≡ v.done = g.done ∙ ap (λ (z : Spelled). record { step = e; machine = machine_of (rule_sight n r.end) e; away = is_away (rule_sight n r.end) e; lines = z.lines } ∷ r.done) same ∙ sym k.done in
    λ i. record { done = done_is i; end = end_is i }

-- a directive that the rule lets go on, by the machines, where they have what it needs
pub record OnByWorld (b : Boot) (p : Place) (e : Step) (u : RulePlace) : Type 0 where
  pub place : Place
  pub after : after_step b p e ≡ Some place
  pub mirrors : Mirrors b place u

does_on : (b : Boot) (p : Place) (r u : RulePlace) (e : Step) → IsValid b → Mirrors b p r → GoesTo b r e u → IsFine b p.state e → (k : GoesOn b p.state r.end e) → OnByWorld b p e u
does_on b p r u e valid h g fine k =
    let does : Does b p.state e k.said.lines k.said.state = record { fits = fits_world b p r u e h g; happens = k.happens; again = fine.again; whole = fine.whole } in
    let next : Place = record { done = did b p e k.said.lines ∷ p.done; state = k.said.state } in
    let after_ : after_step b p e ≡ Some next = after_says b p e k.said k.happens in
    let on = on_by_rule b p next r e valid h after_ (gone_on b p next e k.said.lines h.gone after_ does) in
    record { place = next; after = after_; mirrors = subst (λ (z : RulePlace). Mirrors b next z) (goes_once b r on.place u e on.goes_ g) on.mirrors }

pub on_by_world : (b : Boot) (p : Place) (r u : RulePlace) (e : Step) → IsValid b → Mirrors b p r → GoesTo b r e u → IsFine b p.state e → OnByWorld b p e u
on_by_world b p r u e valid h g fine =
    let k = ran_goes_on b (steps_of p.done) (groups_of p.done) r.end p.state e valid h.ran (step_same (length b.machines) e (fits_world b p r u e h g)) in
    elim (k.steps fine.whole) [
      | inl on ↦ does_on b p r u e valid h g fine on
      | inr s ↦ absurd (g.lasts s.from s.to s.worn)
    ]
