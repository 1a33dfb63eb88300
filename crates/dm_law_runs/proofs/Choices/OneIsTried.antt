-- Of each list of choices one is tried.
use Rattle.std.specs.Prelude.{List, [], ◌∷◌, length, Contains}
use Rattle.std.proofs.Common.{refl, sym, ap, ◌∙◌, subst}
use Rattle.dm_onekernel.specs.declared.boot.Boot.{Boot}
use Rattle.dm_onekernel.specs.Boot.{IsValid}
use Rattle.dm_explore.specs.Asked.{Bounds}
use Rattle.dm_explore.specs.Past.{Did}
use Rattle.dm_explore.specs.Places.{Place, first_place, tried}
use Rattle.dm_explore.specs.Search.{AreAsked, HasGone}
use Rattle.dm_law_runs.specs.Choices.Chosen as chosen
use Rattle.dm_law_runs.specs.Choices.Chosen.{Chosen, Moved, and, keeps, stays}
use Rattle.dm_law_runs.specs.Choices.Laws.{IsTried, OneIsTried}
use Rattle.dm_law_runs.proofs.Choices.Behind.{chosen_led, chosen_there, did, follows, goes_again, gone_back}
use Rattle.dm_law_runs.proofs.Choices.Inserted.{inserted, inserted_moved}
use Rattle.dm_law_runs.proofs.Choices.Inserts.{inserts_always}
use Rattle.dm_law_runs.proofs.Choices.Tried.{tried_first}

one_tried : (b : Boot) (q : Bounds) → IsValid b → AreAsked (length b.machines) q → (p : Place) → Chosen b q p → HasGone b p → IsTried b q p
one_tried b q valid asked p chosen.begins gone = record { place = first_place b; tried_ = tried_first b q; same = refl; moved = stays []; gone = gone }
one_tried b q valid asked p (chosen.goes w u e c among h) gone =
    let led_ = chosen_led b q w c in
    let f = follows b w u e h in
    let x : Did = did b w e f.said.lines in
    let i = one_tried b q valid asked w c (gone_back b w u e led_ gone h).gone in
    let v = goes_again b w i.place u e x led_ gone h f.done i.gone i.same in
    let t = inserts_always b q valid asked (length w.done) i.place v.place e x i.tried_ v.gone (chosen_there b q w i.place i.same i.moved e among) v.after v.done in
    record {
      place = t.place;
      tried_ = subst (λ n. Contains (tried b q n) t.place) (sym (ap (λ (ds : List Did). length ds) f.done)) t.tried_;
      same = t.same ∙ v.same;
      moved = subst (λ ds. Moved ds t.place.done) (sym f.done) (subst (Moved (x ∷ w.done)) (sym t.done) (and (x ∷ w.done) (x ∷ i.place.done) (inserted x i.place.done) (keeps x w.done i.place.done i.moved) (inserted_moved x i.place.done)));
      gone = t.gone;
    }

pub one_is_tried : OneIsTried
one_is_tried b q p valid asked gone c = one_tried b q valid asked p c gone
