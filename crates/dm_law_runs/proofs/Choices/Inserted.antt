-- Where a directive is put that would be left out: before the first that acts on a machine with a higher number, behind the last that it meets.
use Rattle.std.specs.Prelude.{◌≡◌, ◌<◌, ◌≤◌, ◌⊎◌, ℕ, Bool, true, false, cond, if◌then◌else◌, ◌||◌, nat_lt, List, [], ◌∷◌}
use Rattle.std.proofs.Common.{refl, sym, ap, ◌∙◌, inl, inr, ⊎_elim, arith}
use Rattle.std.proofs.lemmas.Bool.{cond-true, cond-false, or_cases, or_parts, or_from, or_left, or_right, false≢true, le-ltb, ltb-true, ltb-false, lt-ltb}
use Rattle.dm_schedule.specs.declared.Step.{Step}
use Rattle.dm_explore.specs.Order.{could_stand_before, meet}
use Rattle.dm_explore.specs.Past.{Did}
use Rattle.dm_law_runs.specs.Choices.Chosen.{Moved, stays, changes, keeps, and}

-- one that was done, as if it came last
abbrev pub goes_before : List Did → Did → Bool
goes_before ds y = could_stand_before ds y.step y.machine y.away

abbrev pub inserted : Did → List Did → List Did
inserted y [] = y ∷ []
inserted y (d ∷ ds) = cond (goes_before (d ∷ ds) y) (d ∷ inserted y ds) (y ∷ d ∷ ds)

pub inserted_here : (y : Did) (ds : List Did) → goes_before ds y ≡ false → inserted y ds ≡ y ∷ ds
inserted_here y [] h = refl
inserted_here y (d ∷ ds) h = cond-false (goes_before (d ∷ ds) y) (d ∷ inserted y ds) (y ∷ d ∷ ds) h

pub inserted_before : (y d : Did) (ds : List Did) → goes_before (d ∷ ds) y ≡ true → inserted y (d ∷ ds) ≡ d ∷ inserted y ds
inserted_before y d ds h = cond-true (goes_before (d ∷ ds) y) (d ∷ inserted y ds) (y ∷ d ∷ ds) h

pub inserted_moved : (y : Did) (ds : List Did) → Moved (y ∷ ds) (inserted y ds)
inserted_moved y [] = stays (y ∷ [])
inserted_moved y (d ∷ ds) = by (goes_before (d ∷ ds) y) (inserted_moved y ds)
  where
    by : (t : Bool) → Moved (y ∷ ds) (inserted y ds) → Moved (y ∷ d ∷ ds) (cond t (d ∷ inserted y ds) (y ∷ d ∷ ds))
    by true m = and (y ∷ d ∷ ds) (d ∷ y ∷ ds) (d ∷ inserted y ds) (changes y d ds) (keeps d (y ∷ ds) (inserted y ds) m)
    by false m = stays (y ∷ d ∷ ds)

-- one that could stand before the last one doesn't meet it, and either acts on a machine with a lower number or could stand further on
pub record Passes (d : Did) (ds : List Did) (e : Step) (m : ℕ) (away : Bool) : Type 0 where
  pub apart : meet d e m away ≡ false
  pub on : (nat_lt m d.machine || could_stand_before ds e m away) ≡ true

pub passes : (d : Did) (ds : List Did) (e : Step) (m : ℕ) (away : Bool) → could_stand_before (d ∷ ds) e m away ≡ true → Passes d ds e m away
passes d ds e m away h = by (meet d e m away) refl h
  where
    by : (t : Bool) → meet d e m away ≡ t → (if t then false else (nat_lt m d.machine || could_stand_before ds e m away)) ≡ true → Passes d ds e m away
    by true is h = absurd (false≢true h)
    by false is h = record { apart = is; on = h }

-- one that couldn't meets it, or doesn't act on a machine with a lower number and couldn't stand further on
pub stops : (d : Did) (ds : List Did) (e : Step) (m : ℕ) (away : Bool) → could_stand_before (d ∷ ds) e m away ≡ false → (meet d e m away ≡ true) ⊎ ((nat_lt m d.machine || could_stand_before ds e m away) ≡ false)
stops d ds e m away h = by (meet d e m away) refl h
  where
    by : (t : Bool) → meet d e m away ≡ t → (if t then false else (nat_lt m d.machine || could_stand_before ds e m away)) ≡ false → (meet d e m away ≡ true) ⊎ ((nat_lt m d.machine || could_stand_before ds e m away) ≡ false)
    by true is h = inl is
    by false is h = inr h

pub stops_meeting : (d : Did) (ds : List Did) (e : Step) (m : ℕ) (away : Bool) → meet d e m away ≡ true → could_stand_before (d ∷ ds) e m away ≡ false
stops_meeting d ds e m away h = ap (λ t. if t then false else (nat_lt m d.machine || could_stand_before ds e m away)) h

pub stops_behind : (d : Did) (ds : List Did) (e : Step) (m : ℕ) (away : Bool) → nat_lt m d.machine ≡ false → could_stand_before ds e m away ≡ false → could_stand_before (d ∷ ds) e m away ≡ false
stops_behind d ds e m away low h = by (meet d e m away)
  where
    by : (t : Bool) → (if t then false else (nat_lt m d.machine || could_stand_before ds e m away)) ≡ false
    by true = refl
    by false = or_from (nat_lt m d.machine) (could_stand_before ds e m away) low h

-- what isn't left out behind some directives isn't so where one was put among them, if it acts on a machine with a higher number than that
-- one, or that one could stand before them
pub stays_open : (y : Did) (ds : List Did) (e : Step) (m : ℕ) (away : Bool) → could_stand_before ds e m away ≡ false → (nat_lt y.machine m || goes_before ds y) ≡ true → could_stand_before (inserted y ds) e m away ≡ false
stays_open y [] e m away h above =
    stops_behind y [] e m away (le-ltb m y.machine (let low : y.machine < m = ⊎_elim (λ l. ltb-true y.machine m l) (λ n. absurd (false≢true n)) (or_cases (nat_lt y.machine m) false above) in omega arith)) refl
stays_open y (f ∷ fs) e m away h above = by (goes_before (f ∷ fs) y) refl (stays_open y fs e m away)
  where
    by : (t : Bool) → goes_before (f ∷ fs) y ≡ t → (could_stand_before fs e m away ≡ false → (nat_lt y.machine m || goes_before fs y) ≡ true → could_stand_before (inserted y fs) e m away ≡ false) → could_stand_before (cond t (f ∷ inserted y fs) (y ∷ f ∷ fs)) e m away ≡ false
    by true is behind =
        ⊎_elim (λ meets. stops_meeting f (inserted y fs) e m away meets)
        (λ n. let (low, rest) = or_parts (nat_lt m f.machine) (could_stand_before fs e m away) n in
        let p = passes f fs y.step y.machine y.away is in
        let higher : f.machine ≤ m = ltb-false m f.machine low in
        stops_behind f (inserted y fs) e m away low
        (behind rest
        (⊎_elim (λ l. or_left (nat_lt y.machine m) (goes_before fs y) (let below_f : y.machine < f.machine = ltb-true y.machine f.machine l in lt-ltb y.machine m (omega arith))) (or_right (nat_lt y.machine m) (goes_before fs y))
        (or_cases (nat_lt y.machine f.machine) (goes_before fs y) p.on))))
        (stops f fs e m away h)
    by false is behind =
        let low : y.machine < m = ⊎_elim (λ l. ltb-true y.machine m l) (λ n. absurd (false≢true (sym is ∙ n))) (or_cases (nat_lt y.machine m) (goes_before (f ∷ fs) y) above) in
        stops_behind y (f ∷ fs) e m away (le-ltb m y.machine (omega arith)) h
