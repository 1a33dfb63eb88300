-- What an answer says of all lists of choices.
use Rattle.std.specs.Prelude.{◌≡◌, ◌≤◌, ◌<◌, ℕ, suc, Bool, true, List, [], ◌∷◌, length}
use Rattle.std.specs.declared.option.Option.TheVariants.{Some}
use Rattle.std.proofs.Common.{refl, sym, ap, ◌∙◌, subst, arith, length-append}
use Rattle.std.proofs.lemmas.Bool.{false≢true, false_from_ne_true}
use Rattle.dm_link.specs.declared.Pid.{Pid}
use Rattle.dm_onekernel.specs.declared.boot.Boot.{Boot}
use Rattle.dm_onekernel.specs.Boot.{IsValid}
use Rattle.dm_schedule.specs.declared.Step.{Step}
use Rattle.dm_world.specs.World.{WorldState}
use Rattle.dm_explore.specs.Asked.{Bounds, Question, Line, Stuck}
use Rattle.dm_explore.specs.Finds.{finds, is_stuck, shows, some_begins}
use Rattle.dm_explore.specs.Past.{Did, last_lines, steps_of}
use Rattle.dm_explore.specs.Places.{Place, first_place, sight}
use Rattle.dm_explore.specs.Search.{AreAsked, HasGone, led}
use Rattle.dm_explore.specs.Sights.{world_sight}
use Rattle.dm_law_runs.specs.Choices.Chosen.{Chosen}
use Rattle.dm_law_runs.specs.Choices.Laws.{AnswersAreLeast, AnswersAreSound, NoneBelow, NoneIsComplete}
use Rattle.dm_law_runs.proofs.Choices.Behind.{chosen_led}
use Rattle.dm_law_runs.proofs.Choices.Looks.{NoneFrom, found_by_length, none_by_length}
use Rattle.dm_law_runs.proofs.Choices.Moves.{any_moved, stuck_moved}
use Rattle.dm_law_runs.proofs.Choices.OneIsTried.{one_is_tried}
use Rattle.dm_law_runs.proofs.Choices.Starts.{none_stuck_first}
use Rattle.dm_law_runs.proofs.Choices.Tried.{some_ends, tried_chosen, tried_length}

-- as many directives as were done
steps_count : (ds : List Did) → length (steps_of ds) ≡ length ds
steps_count [] = refl
steps_count (d ∷ ds) = let one = length-append (steps_of ds) (d.step ∷ []) in let rest = steps_count ds in omega arith

pub answers_are_sound : AnswersAreSound
answers_are_sound b q x es h =
    let f = found_by_length b q x q.depth 1 q.most es h in
    let long = tried_length b q f.length_ f.place f.tried_ in
    let count = steps_count f.place.done in
    let same = ap (λ (ds : List Step). length ds) f.steps in
    let most = f.most in
    record { place = f.place; chosen = tried_chosen b q f.length_ f.place f.tried_; steps = f.steps; found = f.is; short = omega arith }

-- a line in any group of a list: in the last one of a beginning of one that is tried
line_none : (b : Boot) (q : Bounds) (words : List ℕ) (n : ℕ) → IsValid b → AreAsked (length b.machines) q → NoneFrom b q (Line words) 1 n → (p : Place) → HasGone b p → Chosen b q p → length p.done < n → shows b (Line words) p ≡ true → ⊥
line_none b q words n valid asked none p gone c short h =
    let t = one_is_tried b q p valid asked gone c in
    let test : Did → Bool = λ d. some_begins words d.lines in
    let l = some_ends b q test (length p.done) t.place t.tried_ (any_moved test p.done t.place.done t.moved ∙ h) in
    let most = l.most in
    let found : finds b (Line words) l.place ≡ true = ap (λ (ds : List Did). some_begins words (last_lines ds)) l.done ∙ l.passes in
    false≢true (sym (none l.length_ l.least (omega arith) l.place l.tried_) ∙ found)

-- where a list that is tried stands as another one, it is stuck with it
stuck_none : (b : Boot) (q : Bounds) (ps : List Pid) (n : ℕ) → IsValid b → AreAsked (length b.machines) q → NoneFrom b q (Stuck ps) 1 n → (p : Place) → HasGone b p → Chosen b q p → length p.done < n → 1 ≤ length p.done → shows b (Stuck ps) p ≡ true → ⊥
stuck_none b q ps n valid asked none p gone c short some h =
    let t = one_is_tried b q p valid asked gone c in
    let machines : ℕ = length b.machines in
    let there : is_stuck machines (sight b t.place) p.done ps ≡ true = subst (λ (w : WorldState). is_stuck machines (world_sight machines w) p.done ps ≡ true) (sym t.same) h in
    false≢true (sym (none (length p.done) some short t.place t.tried_) ∙ stuck_moved machines (sight b t.place) p.done t.place.done ps t.moved there)

-- before the first directive
first_is : (b : Boot) (q : Bounds) (p : Place) → Chosen b q p → p.done ≡ [] → p ≡ first_place b
first_is b q p c h =
    let both : Some (first_place b) ≡ Some p = ap (λ (ds : List Did). led b (first_place b) (steps_of ds)) (sym h) ∙ chosen_led b q p c in
    let same : first_place b ≡ p = cc in
    sym same

stuck_first : (b : Boot) (q : Bounds) (ps : List Pid) (p : Place) → Chosen b q p → p.done ≡ [] → shows b (Stuck ps) p ≡ true → ⊥
stuck_first b q ps p c none h = false≢true (sym (none_stuck_first b ps) ∙ subst (λ (z : Place). shows b (Stuck ps) z ≡ true) (first_is b q p c none) h)

shows_none : (b : Boot) (q : Bounds) (x : Question) (n : ℕ) → IsValid b → AreAsked (length b.machines) q → NoneFrom b q x 1 n → (p : Place) → HasGone b p → Chosen b q p → length p.done < n → shows b x p ≡ true → ⊥
shows_none b q (Line words) n valid asked none p gone c short h = line_none b q words n valid asked none p gone c short h
shows_none b q (Stuck ps) n valid asked none p gone c short h = by p.done refl
  where
    by : (ds : List Did) → p.done ≡ ds → ⊥
    by [] is = stuck_first b q ps p c is h
    by (d ∷ ds) is = let long = ap (λ (es : List Did). length es) is in stuck_none b q ps n valid asked none p gone c short (omega arith) h

none_below : (b : Boot) (q : Bounds) (x : Question) (n : ℕ) → IsValid b → AreAsked (length b.machines) q → NoneFrom b q x 1 n → NoneBelow b q x n
none_below b q x n valid asked none p gone c short = false_from_ne_true (shows b x p) (shows_none b q x n valid asked none p gone c short)

pub none_is_complete : NoneIsComplete
none_is_complete b q x count valid asked h = none_below b q x (suc q.depth) valid asked (λ j least most. none_by_length b q x q.depth 1 q.most q.depth count h j least (omega arith))

pub answers_are_least : AnswersAreLeast
answers_are_least b q x es valid asked h =
    let f = found_by_length b q x q.depth 1 q.most es h in
    let long = tried_length b q f.length_ f.place f.tried_ in
    let count = steps_count f.place.done in
    let same = ap (λ (ds : List Step). length ds) f.steps in
    none_below b q x (length es) valid asked (λ j least most. f.none j least (omega arith))
