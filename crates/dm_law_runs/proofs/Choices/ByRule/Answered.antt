-- What an answer says of all good runs by the rule.
use Rattle.std.specs.Prelude.{◌≡◌, ◌<◌, ◌+◌, ℕ, zero, suc, List, [], length, Contains}
use Rattle.std.specs.List.{list_any}
use Rattle.std.specs.declared.option.Option.TheVariants.{Some}
use Rattle.std.proofs.Common.{sym, ap, ◌∙◌, subst, arith}
use Rattle.dm_onekernel.specs.declared.boot.Boot.{Boot}
use Rattle.dm_onekernel.specs.Boot.{IsValid}
use Rattle.dm_schedule.specs.declared.Step.{Step}
use Rattle.dm_link.specs.declared.Pid.{Pid}
use Rattle.dm_law_rule.specs.Point.{first_point}
use Rattle.dm_world.specs.World.{WorldState}
use Rattle.dm_explore.specs.Answers.{Answer, Enough, Found, FoundAt, Looked, NoneWithin, Nothing, Undecided, and_then, answer, by_length, look_through}
use Rattle.dm_explore.specs.Asked.{Bounds, Line, Question, Stuck}
use Rattle.dm_explore.specs.Choices.{choices}
use Rattle.dm_explore.specs.Finds.{finds, is_stuck, shows, some_begins}
use Rattle.dm_explore.specs.Past.{Did, last_lines, steps_of}
use Rattle.dm_explore.specs.Places.{Place, chosen_at, first_place, sight, tried}
use Rattle.dm_explore.specs.Search.{AllWent, AreAsked, HasGone, led}
use Rattle.dm_law_runs.specs.Choices.Chosen as chosen
use Rattle.dm_law_runs.specs.Choices.Chosen.{Chosen}
use Rattle.dm_law_runs.specs.Choices.Laws.{NoneBelow}
use Rattle.dm_law_runs.specs.Choices.RuleSight.{rule_sight}
use Rattle.dm_law_runs.specs.Choices.ByRule as by_rule
use Rattle.dm_law_runs.specs.Choices.ByRule.{AnsweredByRule, GoesTo, LeastByRule, NoneByRule, NoneByRuleBelow, RuleChosen, RuleFindsAt, RulePlace, SoundByRule, rule_finds, rule_shows}
use Rattle.dm_law_runs.proofs.Choices.Answering.{answers_are_least, answers_are_sound, none_is_complete}
use Rattle.dm_law_runs.proofs.Choices.Behind.{chosen_led, chosen_there, gone_back}
use Rattle.dm_law_runs.proofs.Choices.OneIsTried.{one_is_tried}
use Rattle.dm_law_runs.proofs.Choices.ByRule.Fine.{IsFine}
use Rattle.dm_law_runs.proofs.Choices.ByRule.Mirrors.{Mirrors, choices_there, fits_world, mirrors_first, on_by_rule, on_by_world, sees_there}
use Rattle.dm_law_runs.proofs.Choices.ByRule.Seen.{stuck_seen}
use Rattle.dm_law_runs.proofs.Choices.ByRule.Taken.{AllTaken, fine_always}

-- stuck by the rule is stuck by the machines
stuck_there : (b : Boot) (p : Place) (r : RulePlace) (ps : List Pid) → IsValid b → Mirrors b p r → is_stuck (length b.machines) (sight b p) p.done ps ≡ is_stuck (length b.machines) (rule_sight (length b.machines) r.end) r.done ps
stuck_there b p r ps valid h =
    let n = length b.machines in
    stuck_seen n (sight b p) (rule_sight n r.end) p.done ps (sees_there b p r valid h)
    ∙ ap (λ (ds : List Did). is_stuck n (rule_sight n r.end) ds ps) (sym h.done)

finds_there : (b : Boot) (x : Question) (p : Place) (r : RulePlace) → IsValid b → Mirrors b p r → finds b x p ≡ rule_finds b x r
finds_there b (Line words) p r valid h = ap (λ (ds : List Did). some_begins words (last_lines ds)) (sym h.done)
finds_there b (Stuck ps) p r valid h = stuck_there b p r ps valid h

shows_there : (b : Boot) (x : Question) (p : Place) (r : RulePlace) → IsValid b → Mirrors b p r → shows b x p ≡ rule_shows b x r
shows_there b (Line words) p r valid h = ap (λ (ds : List Did). list_any (λ (d : Did). some_begins words d.lines) ds) (sym h.done)
shows_there b (Stuck ps) p r valid h = stuck_there b p r ps valid h

-- a list of choices to which a run of the world has gone, by the rule
record OfRule (b : Boot) (q : Bounds) (p : Place) : Type 0 where
  place : RulePlace
  chosen : RuleChosen b q place
  mirrors : Mirrors b p place

of_rule : (b : Boot) (q : Bounds) (p : Place) → IsValid b → Chosen b q p → HasGone b p → OfRule b q p
of_rule b q p valid chosen.begins gone = record { place = record { done = []; end = first_point b }; chosen = by_rule.begins; mirrors = mirrors_first b valid }
of_rule b q p valid (chosen.goes w u e c among after) gone =
    let g = gone_back b w u e (chosen_led b q w c) gone after in
    let r = of_rule b q w valid c g.gone in
    let on = on_by_rule b w u r.place e valid r.mirrors after gone in
    record { place = on.place; chosen = by_rule.goes r.place on.place e r.chosen (subst (λ (es : List Step). Contains es e) (choices_there b q w r.place valid r.mirrors) among) on.goes_; mirrors = on.mirrors }

-- the same directives lead to one place
led_once : (b : Boot) (p u : Place) (es fs : List Step) → led b (first_place b) es ≡ Some p → fs ≡ es → led b (first_place b) fs ≡ Some u → p ≡ u
led_once b p u es fs h same k =
    let there : led b (first_place b) es ≡ Some u = subst (λ (xs : List Step). led b (first_place b) xs ≡ Some u) same k in
    let both : Some p ≡ Some u = sym h ∙ there in
    cc

pub sound_by_rule : SoundByRule
sound_by_rule b q x es valid asked is (found, all) =
    let f = answers_are_sound b q x es is in
    let same = led_once b found.place f.place es (steps_of f.place.done) found.is f.steps (chosen_led b q f.place f.chosen) in
    let r = of_rule b q f.place valid f.chosen (subst (HasGone b) same found.gone) in
    record { place = r.place; chosen = r.chosen; steps = ap steps_of r.mirrors.done ∙ f.steps; found = sym (finds_there b x f.place r.place valid r.mirrors) ∙ f.found; short = f.short }

-- a good run of choices by the rule, by the machines
record OfWorld (b : Boot) (q : Bounds) (r : RulePlace) : Type 0 where
  place : Place
  chosen : Chosen b q place
  mirrors : Mirrors b place r

-- one more
world_on : (b : Boot) (q : Bounds) (r u : RulePlace) (e : Step) → IsValid b → AreAsked (length b.machines) q → Contains (choices (length b.machines) q (rule_sight (length b.machines) r.end) r.done) e → GoesTo b r e u → AllTaken b q (suc (length u.done)) → OfWorld b q r → OfWorld b q u
world_on b q r u e valid asked among g all h =
    let p = h.place in
    let chosen_e : Contains (chosen_at b q p) e = subst (λ (es : List Step). Contains es e) (sym (choices_there b q p r valid h.mirrors)) among in
    let t = one_is_tried b q p valid asked h.mirrors.gone h.chosen in
    let long : length u.done ≡ suc (length p.done) = ap (λ (ds : List Did). length ds) g.done ∙ ap (λ (ds : List Did). suc (length ds)) h.mirrors.done in
    let fine_t : IsFine b t.place.state e = fine_always b q (length p.done) t.place e valid (λ n less. all n (omega (arith, less, long))) t.tried_ t.gone (fits_world b p r u e h.mirrors g) (chosen_there b q p t.place t.same t.moved e chosen_e) in
    let on = on_by_world b p r u e valid h.mirrors g (subst (λ (w : WorldState). IsFine b w e) t.same fine_t) in
    record { place = on.place; chosen = chosen.goes p on.place e h.chosen chosen_e on.after; mirrors = on.mirrors }

of_world : (b : Boot) (q : Bounds) (k : ℕ) → IsValid b → AreAsked (length b.machines) q → AllTaken b q k → (r : RulePlace) → RuleChosen b q r → length r.done < k → OfWorld b q r
of_world b q k valid asked all r by_rule.begins short = record { place = first_place b; chosen = chosen.begins; mirrors = mirrors_first b valid }
of_world b q k valid asked all r (by_rule.goes p u e c among g) short =
    let long : length u.done ≡ suc (length p.done) = ap (λ (ds : List Did). length ds) g.done in
    world_on b q p u e valid asked among g (λ n less. all n (omega (arith, less, short))) (of_world b q k valid asked all p c (omega (arith, short, long)))

none_below_by_rule : (b : Boot) (q : Bounds) (x : Question) (k : ℕ) → IsValid b → AreAsked (length b.machines) q → AllTaken b q k → NoneBelow b q x k → NoneByRuleBelow b q x k
none_below_by_rule b q x k valid asked all none r c short =
    let h = of_world b q k valid asked all r c short in
    sym (shows_there b x h.place r valid h.mirrors) ∙ none h.place h.mirrors.gone h.chosen (let same = ap (λ (ds : List Did). length ds) h.mirrors.done in omega (arith, same, short))

pub none_by_rule : NoneByRule
none_by_rule b q x count valid asked is all = none_below_by_rule b q x (suc q.depth) valid asked (λ n less. all n (omega (arith, less))) (none_is_complete b q x count valid asked is)

pub least_by_rule : LeastByRule
least_by_rule b q x es valid asked is (found, all) = none_below_by_rule b q x (length es) valid asked all (answers_are_least b q x es valid asked is)

-- where there is none, it is so up to the bounds
none_deep : (b : Boot) (q : Bounds) (x : Question) (lengths n left depth count : ℕ) → by_length b q x lengths n left ≡ NoneWithin depth count → q.depth ≡ depth
none_deep b q x zero n left depth count is = cc
none_deep b q x (suc lengths) n left depth count is = by (look_through (finds b x) left (tried b q n)) is (λ rest. none_deep b q x lengths (n + 1) rest depth count)
  where
    by : (l : Looked) → and_then q l (λ rest. by_length b q x lengths (n + 1) rest) ≡ NoneWithin depth count → ((rest : ℕ) → by_length b q x lengths (n + 1) rest ≡ NoneWithin depth count → q.depth ≡ depth) → q.depth ≡ depth
    by (FoundAt p) k later = absurd (cc k)
    by (Nothing rest) k later = later rest k
    by Enough k later = absurd (cc k)

-- whatever is answered is so by the rule
pub answered : (b : Boot) (q : Bounds) (x : Question) (a : Answer) → IsValid b → AreAsked (length b.machines) q → answer b q x ≡ a → AllWent b q a → AnsweredByRule b q x a
answered b q x (Found es) valid asked is all = (sound_by_rule b q x es valid asked is all, least_by_rule b q x es valid asked is all)
answered b q x (NoneWithin depth count) valid asked is all =
    let deep : q.depth ≡ depth = none_deep b q x q.depth 1 q.most depth count is in
    let within : answer b q x ≡ NoneWithin q.depth count = is ∙ ap (λ (n : ℕ). NoneWithin n count) (sym deep) in
    subst (λ (n : ℕ). NoneByRuleBelow b q x (suc n)) deep (none_by_rule b q x count valid asked within (subst (λ (n : ℕ). AllWent b q (NoneWithin n count)) (sym deep) all))
answered b q x (Undecided most) valid asked is all = tt
