-- Where lists of directives lead.
use Rattle.std.specs.Prelude.{◌≡◌, ◌<◌, ◌≤◌, ◌+◌, ℕ, zero, suc, List, [], ◌∷◌, ◌++◌, drop, get_or, length, map, take}
use Rattle.std.specs.List.{All}
use Rattle.std.specs.Option.{option_and_then}
use Rattle.std.specs.declared.option.Option.{Option}
use Rattle.std.specs.declared.option.Option.TheVariants.{None, Some}
use Rattle.std.proofs.Common.{refl, sym, ap, ◌∙◌, subst, arith, length-append}
use Rattle.std.proofs.lemmas.List.{drop_more, map-append, take_all, take_more}
use Rattle.std.proofs.lemmas.List.Elements.{All-append}
use Rattle.dm_onekernel.specs.declared.boot.Boot.{Boot}
use Rattle.dm_schedule.specs.declared.Step.{Step}
use Rattle.dm_line.specs.declared.line.Line.{Line}
use Rattle.dm_world.specs.World.{Happened, Said, Says, WornOut, WorldState, world_step}
use Rattle.dm_run.specs.Runs.{IsStep}
use Rattle.dm_run.specs.Went.{Does, WearsBy, Went, begins, goes}
use Rattle.dm_run.proofs.Counted.{counts}
use Rattle.dm_explore.specs.declared.past.Done.{Done}
use Rattle.dm_explore.specs.Noted.{noted}
use Rattle.dm_explore.specs.Order.{is_away, machine_of}
use Rattle.dm_explore.specs.Past.{Did, groups_of, steps_of}
use Rattle.dm_explore.specs.Places.{Place, after_step, behind, first_place, sight}
use Rattle.dm_explore.specs.Search.{HasGone, led}
use Rattle.dm_explore.proofs.Notes.{done_of}

-- what is noted of a directive that is done at a place, and the place behind it
abbrev pub did : Boot → Place → Step → List Line → Did
did b p e lines = record { step = e; machine = machine_of (sight b p) e; away = is_away (sight b p) e; lines = lines }

abbrev pub place_behind : Boot → Place → Step → List Line → WorldState → Place
place_behind b p e lines u = record { done = did b p e lines ∷ p.done; state = u }

-- a directive has said something, and the place behind it is that
pub record Follows (b : Boot) (p : Place) (e : Step) (u : Place) : Type 0 where
  pub said : Said
  pub happens : world_step b p.state e ≡ Some (Says said)
  pub done : u.done ≡ did b p e said.lines ∷ p.done
  pub state : u.state ≡ said.state

pub follows : (b : Boot) (p u : Place) (e : Step) → after_step b p e ≡ Some u → Follows b p e u
follows b p u e h = by (world_step b p.state e) refl h
  where
    by : (o : Option Happened) → world_step b p.state e ≡ o → behind b p e o ≡ Some u → Follows b p e u
    by None is h = absurd (let wrong : None ≡ Some u = h in cc)
    by (Some (WornOut from to)) is h = absurd (let wrong : None ≡ Some u = h in cc)
    by (Some (Says s)) is h =
        let v : Place = place_behind b p e s.lines s.state in
        let same : v ≡ u = let both : Some v ≡ Some u = h in cc in
        record { said = s; happens = is; done = sym (ap (λ (z : Place). z.done) same); state = sym (ap (λ (z : Place). z.state) same) }

pub after_does : (b : Boot) (p : Place) (e : Step) (lines : List Line) (u : WorldState) → Does b p.state e lines u → after_step b p e ≡ Some (place_behind b p e lines u)
after_does b p e lines u d = ap (behind b p e) d.happens

pub none_after : (b : Boot) (p : Place) (e : Step) (from to : ℕ) → WearsBy b p.state e from to → after_step b p e ≡ None
none_after b p e from to w = ap (behind b p e) w.happens

-- one more directive has one more place
pub one_longer : (b : Boot) (p u : Place) (e : Step) → after_step b p e ≡ Some u → length u.done ≡ suc (length p.done)
one_longer b p u e h = ap (λ (ds : List Did). length ds) (follows b p u e h).done

-- a list and one more directive
pub led_on : (b : Boot) (p u v : Place) (es : List Step) (e : Step) → led b p es ≡ Some u → after_step b u e ≡ Some v → led b p (es ++ e ∷ []) ≡ Some v
led_on b p u v [] e h i = let same : p ≡ u = let both : Some p ≡ Some u = h in cc in ap (λ z. option_and_then (λ y. led b y []) (after_step b z e)) same ∙ ap (option_and_then (λ y. led b y [])) i
led_on b p u v (d ∷ es) e h i = by (after_step b p d) h (λ z k. led_on b z u v es e k i)
  where
    by : (o : Option Place) → option_and_then (λ y. led b y es) o ≡ Some u → ((z : Place) → led b z es ≡ Some u → led b z (es ++ e ∷ []) ≡ Some v) → option_and_then (λ y. led b y (es ++ e ∷ [])) o ≡ Some v
    by None h on = absurd (let wrong : None ≡ Some u = h in cc)
    by (Some z) h on = on z h

-- and one less
pub record LedFirst (b : Boot) (p : Place) (e : Step) (es : List Step) (v : Place) : Type 0 where
  pub place : Place
  pub first : after_step b p e ≡ Some place
  pub leads : led b place es ≡ Some v

pub led_first : (b : Boot) (p v : Place) (e : Step) (es : List Step) → led b p (e ∷ es) ≡ Some v → LedFirst b p e es v
led_first b p v e es h = by (after_step b p e) refl h
  where
    by : (o : Option Place) → after_step b p e ≡ o → option_and_then (λ y. led b y es) o ≡ Some v → LedFirst b p e es v
    by None is h = absurd (let wrong : None ≡ Some v = h in cc)
    by (Some z) is h = record { place = z; first = is; leads = h }

-- a run of the world goes on
pub gone_on : (b : Boot) (p : Place) (e : Step) (lines : List Line) (u : WorldState) → HasGone b p → Does b p.state e lines u → HasGone b (place_behind b p e lines u)
gone_on b p e lines u h d = record {
  led_ = led_on b (first_place b) p (place_behind b p e lines u) (steps_of p.done) e h.led_ (after_does b p e lines u d);
  went = goes (steps_of p.done) (groups_of p.done) p.state e lines u h.went d;
}

-- its directives are for the machines that there are
pub went_fit : (b : Boot) (es : List Step) (gs : List (List Line)) (w : WorldState) → Went b es gs w → All (IsStep (length b.machines)) es
went_fit b es gs w begins = λ k d lt. absurd (omega arith)
went_fit b _ _ _ (goes es gs w e lines u went does) = All-append (IsStep (length b.machines)) es (e ∷ []) (went_fit b es gs w went) (one does.fits)
  where
    one : IsStep (length b.machines) e → All (IsStep (length b.machines)) (e ∷ [])
    one fits zero d lt = fits
    one fits (suc k) d lt = absurd (omega arith)

-- the directives that are noted
abbrev pub step_noted : Done → Step
step_noted x = x.step

pub noted_steps : (ds : List Did) → map step_noted (noted ds) ≡ steps_of ds
noted_steps [] = refl
noted_steps (d ∷ ds) = map-append step_noted (noted ds) (done_of ds d ∷ []) ∙ ap (λ xs. xs ++ d.step ∷ []) (noted_steps ds)

-- those of them that are left
abbrev pub steps_left : List Done → ℕ → List Step
steps_left xs i = map step_noted (drop i xs)

pub left_here : (xs : List Done) (i : ℕ) (d : Done) → i < length xs → steps_left xs i ≡ (get_or xs i d).step ∷ steps_left xs (i + 1)
left_here xs i d lt = ap (map step_noted) (drop_more xs i d lt)

-- the first of some that all fit, and the others
pub first_fits : (n : ℕ) (e : Step) (es : List Step) → All (IsStep n) (e ∷ es) → IsStep n e
first_fits n e es h = h zero e (omega arith)

pub others_fit : (n : ℕ) (e : Step) (es : List Step) → All (IsStep n) (e ∷ es) → All (IsStep n) es
others_fit n e es h = λ k d lt. h (suc k) d (omega arith)

-- the steps of a run, by how many are noted
pub steps_length : (ds : List Did) → length (steps_of ds) ≡ length ds
steps_length [] = refl
steps_length (d ∷ ds) = let one = length-append (steps_of ds) (d.step ∷ []) in let rest = steps_length ds in omega arith

-- a directive says one thing
pub says_one : (b : Boot) (w u v : WorldState) (e : Step) (ls ks : List Line) → world_step b w e ≡ Some (Says (record { state = u; lines = ls })) → world_step b w e ≡ Some (Says (record { state = v; lines = ks })) → u ≡ v
says_one b w u v e ls ks h i =
    let one : Said = record { state = u; lines = ls } in
    let two : Said = record { state = v; lines = ks } in
    let both : Some (Says one) ≡ Some (Says two) = sym h ∙ i in
    let same : one ≡ two = cc in
    ap (λ (s : Said). s.state) same

pub says_or_wears : (b : Boot) (w u : WorldState) (e : Step) (ls : List Line) (from to : ℕ) → world_step b w e ≡ Some (Says (record { state = u; lines = ls })) → WearsBy b w e from to → ⊥
says_or_wears b w u e ls from to h i = let both : Some (Says (record { state = u; lines = ls })) ≡ Some (WornOut from to) = sym h ∙ i.happens in cc

pub steps_more : (xs : List Done) (i : ℕ) (d : Done) → i < length xs → map step_noted (take (i + 1) xs) ≡ map step_noted (take i xs) ++ (get_or xs i d).step ∷ []
steps_more xs i d lt = ap (map step_noted) (take_more xs i d lt) ∙ map-append step_noted (take i xs) (get_or xs i d ∷ [])

pub steps_all : (ds : List Did) (xs : List Done) (i : ℕ) → xs ≡ noted ds → length xs ≤ i → map step_noted (take i xs) ≡ steps_of ds
steps_all ds xs i is most = ap (map step_noted) (take_all i xs most ∙ is) ∙ noted_steps ds

pub grown : {X : Type 0} {xs ys us vs : List X} (x : X) → xs ≡ us ++ x ∷ [] → us ≡ vs → ys ≡ vs ++ x ∷ [] → xs ≡ ys
grown x h i k = h ∙ ap (λ es. es ++ x ∷ []) i ∙ sym k

-- so many groups came
pub went_groups : (b : Boot) (es : List Step) (gs : List (List Line)) (w : WorldState) → Went b es gs w → w.groups ≡ length es
went_groups b es gs w begins = refl
went_groups b _ _ _ (goes es gs w e lines u went does) =
    let one = counts b w e (record { state = u; lines = lines }) does.happens in
    let before = went_groups b es gs w went in
    let more = length-append es (e ∷ []) in
    omega arith
