-- How far back it is looked for the last directive that one meets.
use Rattle.std.specs.Prelude.{◌≡◌, ◌≤◌, ◌<◌, ◌-◌, ℕ, suc, Bool, true, false, ◌||◌, nat_lt, if◌then◌else◌, List, ◌∷◌, length, drop, get_or}
use Rattle.std.proofs.Common.{sym, ap, ◌∙◌, subst, arith}
use Rattle.std.proofs.lemmas.List.{get_or_default}
use Rattle.dm_schedule.specs.declared.Step.{Step}
use Rattle.dm_schedule.specs.declared.Step.TheVariants as step
use Rattle.dm_explore.specs.declared.past.Done.{Done}
use Rattle.dm_explore.specs.declared.past.Past.{Past as ThePast}
use Rattle.dm_explore.specs.declared.past.Put.{Put}
use Rattle.dm_explore.specs.Noted.{IsPast, NotedIn}
use Rattle.dm_explore.specs.Order.{could_stand_before, meet}
use Rattle.dm_explore.specs.Past.{Did}
use Rattle.dm_explore.proofs.Notes.{earlier}

-- what a read past the end would give
abbrev pub nothing : Done
nothing = record { step = step.Turn 0; machine = 0; away = false; again = false; first = 0; behind = 0 }

pub csb_meets : (d : Did) (ds : List Did) (e : Step) (m : ℕ) (away : Bool) → meet d e m away ≡ true → could_stand_before (d ∷ ds) e m away ≡ false
csb_meets d ds e m away h = ap (λ t. if t then false else (nat_lt m d.machine || could_stand_before ds e m away)) h

pub csb_passes : (d : Did) (ds : List Did) (e : Step) (m : ℕ) (away : Bool) → meet d e m away ≡ false → nat_lt m d.machine ≡ true → could_stand_before (d ∷ ds) e m away ≡ true
csb_passes d ds e m away h low = ap (λ t. if t then false else (nat_lt m d.machine || could_stand_before ds e m away)) h ∙ ap (λ t. t || could_stand_before ds e m away) low

pub csb_on : (d : Did) (ds : List Did) (e : Step) (m : ℕ) (away : Bool) → meet d e m away ≡ false → nat_lt m d.machine ≡ false → could_stand_before (d ∷ ds) e m away ≡ could_stand_before ds e m away
csb_on d ds e m away h high = ap (λ t. if t then false else (nat_lt m d.machine || could_stand_before ds e m away)) h ∙ ap (λ t. t || could_stand_before ds e m away) high

-- what is noted at the place before this one
pub record Read (ds : List Did) (place : ℕ) (x : Done) (puts : List Put) : Type 0 where
  pub did : Did
  pub before : List Did
  pub here : drop (length ds - place) ds ≡ did ∷ before
  pub behind : drop (length ds - (place - 1)) ds ≡ before
  pub noted_ : NotedIn did x puts
  pub ordered : x.first ≤ x.behind
  pub within : x.behind ≤ length puts

pub read : (p : ThePast) (ds : List Did) (place : ℕ) (xs : List Done) (puts : List Put) (x : Done) → IsPast p ds → 0 < place → place ≤ length p.done.items → xs ≡ p.done.items → puts ≡ p.puts.items → Read ds place (get_or xs (place - 1) x) puts
read p ds place xs puts x h some within items same =
    let lt : place - 1 < length p.done.items = omega arith in
    let found : get_or xs (place - 1) x ≡ get_or p.done.items (place - 1) (get_or xs (place - 1) x) = ap (λ ys. get_or ys (place - 1) x) items ∙ get_or_default p.done.items (place - 1) x (get_or xs (place - 1) x) lt in
    let e = earlier p ds (place - 1) (get_or xs (place - 1) x) h lt found in
    let next : suc (place - 1) ≡ place = omega arith in
    record {
      did = e.did;
      before = e.before;
      here = ap (λ n. drop (length ds - n) ds) (sym next) ∙ e.here;
      behind = e.behind;
      noted_ = subst (NotedIn e.did (get_or xs (place - 1) x)) (sym same) e.noted_;
      ordered = e.ordered;
      within = subst (λ (ps : List Put). (get_or xs (place - 1) x).behind ≤ length ps) (sym same) e.within;
    }
