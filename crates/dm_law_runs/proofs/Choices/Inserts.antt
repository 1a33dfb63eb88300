-- A directive that would be left out moves, neighbour by neighbour, to where it isn't.
use Rattle.std.specs.Prelude.{◌≡◌, ℕ, zero, suc, true, false, List, ◌∷◌, length, Contains}
use Rattle.std.specs.declared.option.Option.TheVariants.{Some}
use Rattle.std.proofs.Common.{refl, sym, ap, ◌∙◌, subst, ⊎_elim}
use Rattle.std.proofs.lemmas.Bool.{cases_Bool}
use Rattle.dm_onekernel.specs.declared.boot.Boot.{Boot}
use Rattle.dm_onekernel.specs.Boot.{IsValid}
use Rattle.dm_schedule.specs.declared.Step.{Step}
use Rattle.dm_world.specs.World.{WorldState}
use Rattle.dm_explore.specs.Asked.{Bounds}
use Rattle.dm_explore.specs.Order.{could_stand_before, is_away, is_left_out, machine_of, meet}
use Rattle.dm_explore.specs.Past.{Did}
use Rattle.dm_explore.specs.Places.{Place, after_step, chosen_at, first_place, sight, tried}
use Rattle.dm_explore.specs.Search.{AreAsked, HasGone}
use Rattle.dm_law_runs.specs.Choices.Chosen.{Change, Moved, Neighbours}
use Rattle.dm_law_runs.proofs.Choices.Neighbours.{chosen_put, neighbours_change}
use Rattle.dm_law_runs.proofs.Choices.Behind.{IsDid, IsLed, chosen_led, chosen_there, did, follows, goes_again, gone_back, is_did, led_behind}
use Rattle.dm_law_runs.proofs.Choices.Inserted.{goes_before, inserted, inserted_before, inserted_here, inserted_moved, passes, stays_open}
use Rattle.dm_law_runs.proofs.Choices.Tried.{first_tried, tried_chosen, tried_last, tried_on}

-- a list that is tried has these directives, and leads there
pub record TriedAs (b : Boot) (q : Bounds) (n : ℕ) (s : WorldState) (ds : List Did) : Type 0 where
  pub place : Place
  pub tried_ : Contains (tried b q n) place
  pub done : place.done ≡ ds
  pub same : place.state ≡ s
  pub gone : HasGone b place

-- what is noted of a directive says whether it is left out
left_out_by : (b : Boot) (t : Place) (e : Step) (y : Did) → IsDid b t e y → is_left_out (sight b t) t.done e ≡ goes_before t.done y
left_out_by b t e y h =
    let by_step : could_stand_before t.done y.step y.machine y.away ≡ could_stand_before t.done e y.machine y.away = ap (λ d. could_stand_before t.done d y.machine y.away) h.step_ in
    let by_machine : could_stand_before t.done e y.machine y.away ≡ could_stand_before t.done e (machine_of (sight b t) e) y.away = ap (λ m. could_stand_before t.done e m y.away) h.machine in
    let by_away : could_stand_before t.done e (machine_of (sight b t) e) y.away ≡ is_left_out (sight b t) t.done e = ap (could_stand_before t.done e (machine_of (sight b t) e)) h.away in
    sym (by_step ∙ by_machine ∙ by_away)

-- and whether it meets another one
apart_by : (b : Boot) (t : Place) (e : Step) (x y : Did) → IsDid b t e y → meet x y.step y.machine y.away ≡ false → meet x e (machine_of (sight b t) e) (is_away (sight b t) e) ≡ false
apart_by b t e x y h apart =
    let by_step : meet x y.step y.machine y.away ≡ meet x e y.machine y.away = ap (λ d. meet x d y.machine y.away) h.step_ in
    let by_machine : meet x e y.machine y.away ≡ meet x e (machine_of (sight b t) e) y.away = ap (λ m. meet x e m y.away) h.machine in
    let by_away : meet x e (machine_of (sight b t) e) y.away ≡ meet x e (machine_of (sight b t) e) (is_away (sight b t) e) = ap (meet x e (machine_of (sight b t) e)) h.away in
    sym (by_step ∙ by_machine ∙ by_away) ∙ apart

-- whatever is done behind a list of n directives that is tried, one that is tried has the same, with this one put where it isn't left out
abbrev pub Inserts : Boot → Bounds → ℕ → Type 0
Inserts b q n =
    (t v : Place) (e : Step) (y : Did) → Contains (tried b q n) t → HasGone b v → Contains (chosen_at b q t) e → after_step b t e ≡ Some v → v.done ≡ y ∷ t.done → TriedAs b q (suc n) v.state (inserted y t.done)

-- it isn't left out there
inserts_here : (b : Boot) (q : Bounds) (n : ℕ) (t v : Place) (e : Step) (y : Did) → Contains (tried b q n) t → HasGone b v → Contains (chosen_at b q t) e → after_step b t e ≡ Some v → v.done ≡ y ∷ t.done → goes_before t.done y ≡ false
    → TriedAs b q (suc n) v.state (inserted y t.done)
inserts_here b q n t v e y c gone among h is stays = record {
  place = v;
  tried_ = tried_on b q n t v e c among (left_out_by b t e y (is_did b t v e y h is) ∙ stays) h;
  done = is ∙ sym (inserted_here y t.done stays);
  same = refl;
  gone = gone;
}

-- behind a place p, d would come and then e, which was put further on: then d comes last, and isn't left out there either
comes_last : (b : Boot) (q : Bounds) (n : ℕ) (p t v : Place) (d e : Step) (x y : Did) → IsLed b p → after_step b p d ≡ Some t → t.done ≡ x ∷ p.done → is_left_out (sight b p) p.done d ≡ false → goes_before (x ∷ p.done) y ≡ true
    → (c : Change b p v d e x y) → Contains (chosen_at b q c.between) d → TriedAs b q n c.between.state (inserted y p.done) → TriedAs b q (suc n) v.state (inserted y (x ∷ p.done))
comes_last b q n p t v d e x y is_led h is stays before c still i =
    let u : Place = c.between in
    let both : c.last.done ≡ x ∷ u.done = c.both ∙ ap (λ (ds : List Did). x ∷ ds) (sym c.done) in
    let w = goes_again b u i.place c.last d x (led_behind b p u e is_led c.first) c.gone c.second both i.gone i.same in
    let order : Moved u.done i.place.done = subst (λ ds. Moved ds i.place.done) (sym c.done) (subst (Moved (y ∷ p.done)) (sym i.done) (inserted_moved y p.done)) in
    let open_there : goes_before p.done x ≡ false = sym (left_out_by b p d x (is_did b p t d x h is)) ∙ stays in
    let open_here : goes_before i.place.done x ≡ false = ap (λ (ds : List Did). goes_before ds x) i.done ∙ stays_open y p.done x.step x.machine x.away open_there (passes x p.done y.step y.machine y.away before).on in
    record {
      place = w.place;
      tried_ = tried_on b q n i.place w.place d i.tried_ (chosen_there b q u i.place i.same order d still) (left_out_by b i.place d x (is_did b i.place w.place d x w.after w.done) ∙ open_here) w.after;
      done = w.done ∙ (ap (λ (ds : List Did). x ∷ ds) i.done ∙ sym (inserted_before y x p.done before));
      same = w.same ∙ c.same;
      gone = w.gone;
    }

-- behind a place p, d comes and then e, which is left out there: they change places, and e is put further on
changes_last : (b : Boot) (q : Bounds) → IsValid b → AreAsked (length b.machines) q → (n : ℕ) → Inserts b q n → (p t v : Place) (d e : Step) (x y : Did) → Contains (tried b q n) p → HasGone b v → Contains (chosen_at b q p) d
    → is_left_out (sight b p) p.done d ≡ false → after_step b p d ≡ Some t → t.done ≡ x ∷ p.done → Contains (chosen_at b q t) e → after_step b t e ≡ Some v → v.done ≡ y ∷ t.done → goes_before (x ∷ p.done) y ≡ true
    → TriedAs b q (suc (suc n)) v.state (inserted y (x ∷ p.done))
changes_last b q valid asked n inserts p t v d e x y c gone first stays h is among i is_y before =
    let p_led : IsLed b p = chosen_led b q p (tried_chosen b q n p c) in
    let p_gone : HasGone b p = (gone_back b p t d p_led (gone_back b t v e (led_behind b p t d p_led h) gone i).gone h).gone in
    let apart = apart_by b t e x y (is_did b t v e y i is_y) (passes x p.done y.step y.machine y.away before).apart in
    let neighbours : Neighbours b p v d e x y = record { between = t; first = h; second = i; done = is; both = is_y ∙ ap (λ (ds : List Did). y ∷ ds) is; apart = apart } in
    let change = neighbours_change b p v d e x y valid p_gone gone (chosen_put b q p d asked first) neighbours in
    let u_gone : HasGone b change.between = (gone_back b change.between change.last d (led_behind b p change.between e p_led change.first) change.gone change.second).gone in
    let still = change.chosen q asked first t h among in
    comes_last b q (suc n) p t v d e x y p_led h is stays before change still.1 (inserts p change.between e y c u_gone still.0 change.first change.done)

inserts_before : (b : Boot) (q : Bounds) → IsValid b → AreAsked (length b.machines) q → (n : ℕ) → Inserts b q n
    → (t v : Place) (e : Step) (y : Did) → Contains (tried b q (suc n)) t → HasGone b v → Contains (chosen_at b q t) e → after_step b t e ≡ Some v → v.done ≡ y ∷ t.done → goes_before t.done y ≡ true → TriedAs b q (suc (suc n)) v.state (inserted y t.done)
inserts_before b q valid asked n inserts t v e y c gone among h is left =
    let l = tried_last b q (first_place b) n t c in
    let f = follows b l.place t l.step_ l.after in
    let x : Did = did b l.place l.step_ f.said.lines in
    let before : goes_before (x ∷ l.place.done) y ≡ true = ap (λ (ds : List Did). goes_before ds y) (sym f.done) ∙ left in
    subst (λ ds. TriedAs b q (suc (suc n)) v.state (inserted y ds)) (sym f.done) (changes_last b q valid asked n inserts l.place t v l.step_ e x y l.tried_ gone l.among l.stays l.after f.done among h is before)

pub inserts_always : (b : Boot) (q : Bounds) → IsValid b → AreAsked (length b.machines) q → (n : ℕ) → Inserts b q n
inserts_always b q valid asked zero t v e y c gone among h is = inserts_here b q zero t v e y c gone among h is (sym (ap (λ (p : Place). goes_before p.done y) (first_tried b q t c)))
inserts_always b q valid asked (suc n) t v e y c gone among h is =
    ⊎_elim (inserts_before b q valid asked n (inserts_always b q valid asked n) t v e y c gone among h is) (inserts_here b q (suc n) t v e y c gone among h is) (cases_Bool (goes_before t.done y))
